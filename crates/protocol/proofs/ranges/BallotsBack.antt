-- What is sent in ballots passes the questions of its record: by the ballots' invariant a promise reports a ballot that its giver took, not above its own, with its word.
use Prim.Native.Nat.{ℕ, ◌≤◌}
use mathlib.Core.Path.{◌≡◌, refl, sym, ◌∙◌, ap}
use mathlib.Core.Bool.{Bool, true, false, not, true≢false}
use mathlib.Core.Logic.{inl, inr}
use native.Mathlib.Omega.{arith}
use lib.Dec.{eqb}
use borrow.Author.Tests.{le-leb, eqb-true, not-true}
use Rattle.ground.specs.Tests.{by_cond, and_r}
use Rattle.ground.specs.Mask.{has}
use Rattle.model.specs.Numbers.{is_none}
use Rattle.model.specs.Ranges.{is_ballot}
use Rattle.model.specs.QuestionLaws.{yes-all}
use Rattle.model.specs.declared.Outcome.{Outcome}
use Rattle.model.specs.declared.BallotKind.{BallotKind}
use Rattle.model.specs.declared.BallotKind.TheVariants.{Prepare, Promise, Accept, Accepted}
use Rattle.message_record.specs.BallotMessages.{tells_nothing, tells_word, reports_last, tells_for_kind, ballot_suits, about_ballot}
use Rattle.protocol.specs.declared.Bench.{Bench}
use Rattle.protocol.specs.Benches.{bench_of}
use Rattle.protocol.specs.Ballots.{owner, row, report}
use Rattle.protocol.specs.BallotSteps.{was_sent_in, reported_word}
use Rattle.protocol.specs.Questions.{accepted, first_no}
use Rattle.protocol.specs.Reach.{last_in, word_in, ballot_at, WasSentInBallot}
use Rattle.protocol.proofs.view.Simulation.{view, Sound}
use Rattle.protocol.proofs.paxos.Invariant.{IsPut, PromiseSound}
use Rattle.protocol.proofs.lists.Reach.{Reached}

module _ (b : Bench) (a : Sound b) (i j ballot : ℕ) where
  -- a word is told
  tells : (w : Outcome) → IsPut w → tells_word 0 w ≡ true
  unfolding tells_word
  tells w p = ap not p

  -- a promise reports nothing, or a ballot and its word
  reports : has (row b.ballots ballot).promised_by i ≡ true → reports_last ballot (report (row b.ballots ballot) i) (reported_word b.ballots ballot i) ≡ true
  unfolding reports_last view
  reports e =
      let p : PromiseSound (λ c k. has (row b.ballots c).accepted_by k) ballot i (report (row b.ballots ballot) i) = a.balloted.inv.promises ballot i e in
      by_cond (λ (t : Bool). t ≡ true) (eqb (report (row b.ballots ballot) i) 0) _ _
      (λ z. ap (λ (c : ℕ). is_none (row b.ballots c).tally.word) (eqb-true _ _ z) ∙ a.balloted.inv.no_zero)
      (λ z. elim p.real [
        | inl q ↦ absurd (let y : eqb (report (row b.ballots ballot) i) 0 ≡ true = ap (λ (c : ℕ). eqb c 0) q in let x : true ≡ false = sym y ∙ z in true≢false x)
        | inr q ↦ (let w : IsPut (reported_word b.ballots ballot i) = a.balloted.inv.takings (report (row b.ballots ballot) i) i q in rw (w, le-leb _ _ p.low))
      ])

  told : (kind : BallotKind) → was_sent_in kind b.shared.n ballot i j (row b.ballots ballot) ≡ true → tells_for_kind kind ballot (last_in b kind i ballot) (word_in b kind i ballot) ≡ true
  unfolding tells_for_kind was_sent_in tells_nothing view
  told Prepare e = refl
  told Promise e = reports (and_r (eqb (owner b.shared.n ballot) j) _ e)
  told Accept e = tells _ (not-true _ (and_r (eqb (owner b.shared.n ballot) i) _ e))
  told Accepted e = tells _ (a.balloted.inv.takings ballot i (and_r (eqb (owner b.shared.n ballot) j) _ e))

  passes : (kind : BallotKind) → WasSentInBallot b kind i j ballot → first_no (about_ballot (ballot_at b kind i j ballot)) ≡ accepted
  unfolding about_ballot ballot_suits is_ballot
  passes kind s = yes-all (about_ballot (ballot_at b kind i j ballot)) (a.sized, (s.ends, (le-leb 1 _ s.order, (told kind s.sent, (s.in_range, tt)))))

pub ballot-passes : (b : Bench) (kind : BallotKind) (i j ballot : ℕ) → Reached b → WasSentInBallot b kind i j ballot → first_no (about_ballot (ballot_at b kind i j ballot)) ≡ accepted
ballot-passes b kind i j ballot (inl z) s = absurd (let q : b.shared.order ≡ 0 = ap (λ (x : Bench). x.shared.order) z ∙ (unfold bench_of in refl) in let h : 1 ≤ b.shared.order = s.order in omega arith)
ballot-passes b kind i j ballot (inr a) s = passes b a i j ballot kind s
