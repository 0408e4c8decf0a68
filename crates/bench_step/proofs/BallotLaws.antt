-- An event of ballots, asked and played on what the code reads: its station, its acceptor and its row.
use Prim.Native.Nat.{ℕ, ◌≤◌, ◌%◌}
use mathlib.Core.Path.{◌≡◌, refl, sym, ap, ◌∙◌}
use mathlib.Core.Bool.{true, not, ◌&&◌}
use mathlib.Core.List.{[]}
use mathlib.Core.Logic.{inl, inr}
use native.Mathlib.Omega.{arith}
use lib.Dec.{eqb}
use lib.ListN.{length, replicate}
use Rattle.ground.specs.Limit.{limit}
use Rattle.ground.specs.Tests.{split, and_l, and_r}
use Rattle.ground.specs.Lists.{nth, put}
use Rattle.model.specs.RangeLaws.{member}
use Rattle.model.specs.QuestionLaws.{AllYes}
use Rattle.model.specs.Ranges.{is_controller}
use Rattle.model.specs.declared.Outcome.{Outcome}
use Rattle.model.specs.declared.BallotEvent.{BallotEvent}
use Rattle.model.specs.declared.BallotEvent.TheVariants.{Open, Carry}
use Rattle.model.specs.declared.Event.TheVariants.{OfBallots}
use Rattle.protocol.specs.declared.BallotAnswer.{BallotAnswer}
use Rattle.protocol.specs.declared.BallotRow.{BallotRow}
use Rattle.protocol.specs.declared.Ballots.{Ballots}
use Rattle.protocol.specs.declared.Bench.{Bench}
use Rattle.protocol.specs.declared.Condition.{Condition}
use Rattle.protocol.specs.Ballots.{ballot_limit, is_ballot, new_row, acceptor, row}
use Rattle.protocol.specs.BallotSteps.{ballot_subject, row_after, answered}
use Rattle.protocol.specs.Benches.{station, controller, sent_by}
use Rattle.protocol.specs.Questions.{Facts, first_no, may_open, may_give, agrees_at, questions, questions_of, facts_of, reply}
use Rattle.protocol.specs.Steps.{perform}
use Rattle.bench_state.specs.BallotQuestions.{ballot_number, ballot_asked, ballot-asked}
use Rattle.bench_state.proofs.BallotReplies.{row_alike, has-row, in_row}
use Rattle.bench_turns.specs.BallotTurns.{reported_ballot, word_in, ballot_answer}
use Rattle.bench_turns.proofs.BallotLaws.{reported_of, word_read, ballots-answered}
use Rattle.bench_step.proofs.Defaults.{nth_alike, nth-within}
use Rattle.bench_step.proofs.StationsRead.{station_read, read-condition, read-proposal}

-- the row of a ballot as the code reads it
abbrev pub row_read : Ballots → ℕ → BallotRow
row_read s b = nth (new_row (replicate limit 0)) s.rows b

read-row : (s : Ballots) (b : ℕ) → length s.rows ≡ ballot_limit → is_ballot b ≡ true → row_read s b ≡ row s b
unfolding row
read-row s b l e = let k = in_row b e in nth-within (new_row (replicate limit 0)) (new_row []) s.rows b k.0 (rw l k.1)

-- its word, of any number
read_word : (s : Ballots) (b : ℕ) → (row_read s b).tally.word ≡ (row s b).tally.word
unfolding row new_row
read_word s b = nth_alike (λ (r : BallotRow). r.tally.word) (new_row (replicate limit 0)) (new_row []) refl s.rows b

-- the controller has a number from 1 on
subject-first : (v : Facts) (e : BallotEvent) → AllYes (questions_of v (OfBallots e)) → 1 ≤ ballot_subject e
subject-first v (Open i b) y = (member v.shared.n i y.1.0).low
subject-first v (Carry i j kind b) y =
    let both = and_l (is_controller v.shared.n i && is_controller v.shared.n j) (not (eqb i j)) y.1.0 in
    (member v.shared.n j (and_r (is_controller v.shared.n i) (is_controller v.shared.n j) both)).low

module _ (b : Bench) (e : BallotEvent) (l : length b.ballots.rows ≡ ballot_limit) where
  abbrev s : Ballots
  s = b.ballots

  abbrev i : ℕ
  i = ballot_subject e

  abbrev k : ℕ
  k = ballot_number e

  abbrev own : Outcome
  own = (station_read b i).controller.proposal

  abbrev facts : Facts
  facts = facts_of b.shared s (OfBallots e) (station b i) (sent_by b i) (may_open b.shared) (may_give b.shared s) (agrees_at b.shared (OfBallots e) (sent_by b i) (station b i))

  pub asked-read : first_no (ballot_asked b.shared (station_read b i).controller.condition own (acceptor s i) (row_read s k) e) ≡ reply b (OfBallots e)
  unfolding reply
  asked-read =
      ap (λ (c : Condition). first_no (ballot_asked b.shared c own (acceptor s i) (row_read s k) e)) (read-condition b i)
      ∙ ap (λ (w : Outcome). first_no (ballot_asked b.shared (station b i).controller.condition w (acceptor s i) (row_read s k) e)) (read-proposal b i)
      ∙ same_row
      ∙ ap first_no (sym (ballot-asked facts e))
    where
      same_row : first_no (ballot_asked b.shared (station b i).controller.condition (station b i).controller.proposal (acceptor s i) (row_read s k) e)
          ≡ first_no (ballot_asked b.shared (station b i).controller.condition (station b i).controller.proposal (acceptor s i) (row s k) e)
      same_row = elim (split (is_ballot k)) [
        | inl y ↦ ap (λ (r : BallotRow). first_no (ballot_asked b.shared (station b i).controller.condition (station b i).controller.proposal (acceptor s i) r e)) (read-row s k l y)
        | inr n ↦ row_alike b.shared (station b i).controller.condition (station b i).controller.proposal (acceptor s i) (row_read s k) (row s k) e n
      ]

  module _ (yes : AllYes (questions b (OfBallots e))) where
    ranged : is_ballot k ≡ true
    ranged = has-row facts e yes

    pub placed : (1 ≤ i) × (1 ≤ k)
    placed = (subject-first facts e yes, (in_row k ranged).0)

    -- the answer that the code finds, put back
    abbrev pub answer_read : BallotAnswer
    answer_read = ballot_answer b.shared.n (k % 256) e own (acceptor s i) (row_read s k) (word_in (reported_ballot e (row_read s k)) (row_read s (reported_ballot e (row_read s k))))

    same_answer : answer_read ≡ ballot_answer b.shared.n k e (controller b i).proposal (acceptor s i) (row s k) (reported_of s e)
    same_answer =
        let r = read-row s k l ranged in
        let m : k % 256 ≡ k = omega (arith, (in_row k ranged).1) in
        ap (λ (x : ℕ). ballot_answer b.shared.n x e own (acceptor s i) (row_read s k) (word_in (reported_ballot e (row_read s k)) (row_read s (reported_ballot e (row_read s k))))) m
        ∙ ap (λ (w : Outcome). ballot_answer b.shared.n k e w (acceptor s i) (row_read s k) (word_in (reported_ballot e (row_read s k)) (row_read s (reported_ballot e (row_read s k))))) (read-proposal b i)
        ∙ ap (λ (x : BallotRow). ballot_answer b.shared.n k e (controller b i).proposal (acceptor s i) x (word_in (reported_ballot e x) (row_read s (reported_ballot e x)))) r
        ∙ ap (ballot_answer b.shared.n k e (controller b i).proposal (acceptor s i) (row s k)) (word_read s e (row_read s (reported_ballot e (row s k))) (λ h. read_word s (reported_ballot e (row s k))))

    pub put-answer : (x : BallotAnswer) → x ≡ answer_read
        → ◌≡◌ {A = Bench} (record { shared = b.shared; ballots = record { acceptors = put s.acceptors i x.acceptor; rows = put s.rows k (row_after (row_read s k) i x) }; stations = b.stations }) (perform b (OfBallots e))
    unfolding perform answered
    put-answer x w = ap (λ (t : Ballots). record { shared = b.shared; ballots = t; stations = b.stations }) (
        ap (λ (y : BallotAnswer). record { acceptors = put s.acceptors i y.acceptor; rows = put s.rows k (row_after (row_read s k) i y) }) (w ∙ same_answer)
        ∙ ap (λ (r : BallotRow). record { acceptors = put s.acceptors i now.acceptor; rows = put s.rows k (row_after r i now) }) (read-row s k l ranged)
        ∙ ballots-answered b.shared.n s (controller b i).proposal e placed.0 placed.1)
      where
        now : BallotAnswer
        now = ballot_answer b.shared.n k e (controller b i).proposal (acceptor s i) (row s k) (reported_of s e)
