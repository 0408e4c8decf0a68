-- What stays of a ballot through every rule: who accepted it, its word, the room for reports. By the cases of each rule.
use Prim.Native.Nat.{ℕ}
use mathlib.Core.Path.{◌≡◌, refl, ap}
use mathlib.Core.Bool.{true, not}
use mathlib.Core.List.{List}
use lib.ListN.{length}
use Rattle.ground.specs.Tests.{no_both, by_cond, and_l}
use Rattle.ground.specs.Lists.{put, length-put}
use Rattle.ground.specs.Mask.{has, insert}
use Rattle.ground.proofs.MaskLaws.{insert-keeps}
use Rattle.model.specs.Numbers.{is_none}
use Rattle.model.specs.declared.Outcome.{Outcome}
use Rattle.protocol.specs.declared.Acceptor.{Acceptor}
use Rattle.protocol.specs.declared.Tally.{Tally}
use Rattle.protocol.specs.declared.BallotAnswer.{BallotAnswer}
use Rattle.protocol.specs.declared.BallotRow.{BallotRow}
use Rattle.protocol.specs.BallotRules.{unanswered, answers_prepare, give_promise, prepare_arrives, answers_accept, accept, accept_arrives, counts, counting, put_if_majority, promise_arrives, promising, giving, open_ballot}
use Rattle.protocol.specs.BallotSteps.{row_after}
use Rattle.protocol.proofs.paxos.Invariant.{IsPut}

pub record Grown (r r' : BallotRow) : Type 0 where
  pub room : length r'.lasts ≡ length r.lasts
  pub taken : (k : ℕ) → has r.accepted_by k ≡ true → has r'.accepted_by k ≡ true
  pub word : IsPut r.tally.word → r'.tally.word ≡ r.tally.word

pub grown-refl : (r : BallotRow) → Grown r r
grown-refl r = record { room = refl; taken = λ k e. e; word = λ e. refl }

-- the answer leaves the word that was put
abbrev pub KeepsWord : Tally → BallotAnswer → Type 0
KeepsWord t x = IsPut t.word → x.tally.word ≡ t.word

pub row-grown : (r : BallotRow) (i : ℕ) (x : BallotAnswer) → KeepsWord r.tally x → Grown r (row_after r i x)
unfolding row_after
row-grown r i x kept = record {
  room = by_cond (λ (l : List ℕ). length l ≡ length r.lasts) x.promise.given (put r.lasts i x.promise.last) r.lasts (λ _. length-put r.lasts i x.promise.last) (λ _. refl);
  taken = λ k e. by_cond (λ (m : ℕ). has m k ≡ true) x.accepts (insert r.accepted_by i) r.accepted_by (λ _. insert-keeps r.accepted_by i k e) (λ _. e);
  word = kept;
}

module _ (n b : ℕ) (own : Outcome) where
  pub prepare-word : (a : Acceptor) (t : Tally) → KeepsWord t (prepare_arrives b a t)
  unfolding prepare_arrives
  prepare-word a t p = by_cond (λ (x : BallotAnswer). x.tally.word ≡ t.word) (answers_prepare b a) (give_promise b a t) (unanswered a t) (λ _. unfold give_promise in refl) (λ _. unfold unanswered in refl)

  pub accept-tally : (w : Outcome) (a : Acceptor) (t : Tally) → (accept_arrives b w a t).tally ≡ t
  unfolding accept_arrives
  accept-tally w a t = by_cond (λ (x : BallotAnswer). x.tally ≡ t) (answers_accept b a) (accept b w a t) (unanswered a t) (λ _. unfold accept in refl) (λ _. unfold unanswered in refl)

  pub accept-word : (w : Outcome) (a : Acceptor) (t : Tally) → KeepsWord t (accept_arrives b w a t)
  accept-word w a t p = ap (λ (t : Tally). t.word) (accept-tally w a t)

  pub promise-word : (j l : ℕ) (w : Outcome) (a : Acceptor) (t : Tally) → KeepsWord t (promise_arrives n b j l w own a t)
  unfolding promise_arrives
  promise-word j l w a t p = by_cond (λ (x : BallotAnswer). x.tally.word ≡ t.word) (counts t j) (put_if_majority n b own a (counting t j l w)) (unanswered a t)
      (λ e. absurd (no_both (is_none t.word) (and_l (is_none t.word) (not (has t.from j)) e) p))
      (λ _. unfold unanswered in refl)

  pub open-word : (i : ℕ) (a : Acceptor) (t : Tally) → KeepsWord t (open_ballot n b i own a t)
  unfolding open_ballot giving
  open-word i a t p = promise-word i a.last a.word (promising b a) t p
