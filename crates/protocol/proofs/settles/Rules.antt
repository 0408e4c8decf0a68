-- What the rules do at ballot 1 where nothing above it was promised: each promises it, counts towards it and takes it. By the tests of each rule.
use Prim.Native.Nat.{ℕ, suc, ◌≤◌}
use mathlib.Core.Path.{◌≡◌, refl, sym, ◌∙◌, ap, subst}
use mathlib.Core.Bool.{Bool, true, false, cond, not, ◌&&◌, true≢false, false≢true}
use mathlib.Core.Logic.{◌⊎◌, inl, inr}
use native.Mathlib.Omega.{arith}
use native.Mathlib.Decide.{ℕ_discrete}
use lib.Dec.{eqb, leb}
use borrow.Author.Tests.{le-leb, eqb-true}
use Rattle.ground.specs.Tests.{no_both, by_cond, and_l}
use Rattle.ground.specs.Mask.{width, has, insert}
use Rattle.ground.proofs.MaskLaws.{insert-own, insert-keeps}
use Rattle.model.specs.Numbers.{is_none}
use Rattle.model.specs.declared.Outcome.{Outcome}
use Rattle.protocol.specs.declared.Acceptor.{Acceptor}
use Rattle.protocol.specs.declared.Tally.{Tally}
use Rattle.protocol.specs.declared.BallotAnswer.{BallotAnswer}
use Rattle.protocol.specs.Ballots.{majority}
use Rattle.protocol.specs.BallotRules.{unanswered, answers_prepare, promising, give_promise, prepare_arrives, answers_accept, accepting, accept, accept_arrives, counts, counting, word_for, with_word, putting, put_word, put_if_majority, promise_arrives, giving, open_ballot}
use Rattle.protocol.proofs.paxos.Invariant.{IsPut}
use Rattle.protocol.proofs.paxos.Growth.{accept-tally}

-- one that has promised nothing promises
pub prepare-promises : (a : Acceptor) (t : Tally) → a.highest ≤ 1 → a.promised ≡ 0 → prepare_arrives 1 a t ≡ give_promise 1 a t
unfolding prepare_arrives
prepare-promises a t h p = by_cond (λ (x : BallotAnswer). x ≡ give_promise 1 a t) (answers_prepare 1 a) (give_promise 1 a t) (unanswered a t)
    (λ _. refl) (λ e. absurd (no_both (answers_prepare 1 a) answers e))
  where
    answers : answers_prepare 1 a ≡ true
    answers = rw (le-leb a.highest 1 h, p)

-- after a put it has taken ballot 1, now or before
last_one : (x y : Bool) → x ≡ true → (x && not y) ≡ false → y ≡ true
last_one true true p e = refl
last_one true false p e = absurd (true≢false e)
last_one false y p e = absurd (false≢true p)

pub accept_takes : (w : Outcome) (a : Acceptor) (t : Tally) → a.highest ≤ 1 → (accept_arrives 1 w a t).acceptor.last ≡ 1
unfolding accept_arrives
accept_takes w a t h = by_cond (λ (x : BallotAnswer). x.acceptor.last ≡ 1) (answers_accept 1 a) (accept 1 w a t) (unanswered a t)
    (λ _. unfold accept accepting in refl)
    (λ e. unfold unanswered in eqb-true _ _ (last_one (leb a.highest 1) (eqb a.last 1) (le-leb a.highest 1 h) e))

-- and nothing above it is promised
pub accept-low : (w : Outcome) (a : Acceptor) (t : Tally) → a.highest ≤ 1 → (accept_arrives 1 w a t).acceptor.highest ≤ 1
unfolding accept_arrives
accept-low w a t h = by_cond (λ (x : BallotAnswer). x.acceptor.highest ≤ 1) (answers_accept 1 a) (accept 1 w a t) (unanswered a t)
    (λ _. unfold accept accepting in omega arith)
    (λ _. unfold unanswered in h)

module _ (n : ℕ) (own : Outcome) where
  pub promise-low : (j l : ℕ) (w : Outcome) (a : Acceptor) (t : Tally) → a.highest ≤ 1 → (promise_arrives n 1 j l w own a t).acceptor.highest ≤ 1
  unfolding promise_arrives put_if_majority
  promise-low j l w a t h = by_cond (λ (x : BallotAnswer). x.acceptor.highest ≤ 1) (counts t j) (put_if_majority n 1 own a (counting t j l w)) (unanswered a t)
      (λ _. by_cond (λ (x : BallotAnswer). x.acceptor.highest ≤ 1) (majority n (counting t j l w).from) (put_word 1 (word_for (counting t j l w) own) a (counting t j l w)) (unanswered a (counting t j l w))
      (λ _. unfold put_word putting in accept-low (word_for (counting t j l w) own) a _ h)
      (λ _. unfold unanswered in h))
      (λ _. unfold unanswered in h)

  -- the owner counts the promises of 1 to m, and has no majority yet; or it has put a word and taken it
  pub record Counting (m : ℕ) (t : Tally) : Type 0 where
    pub blank : is_none t.word ≡ true
    pub few : majority n t.from ≡ false
    pub counted : (j : ℕ) → 1 ≤ j → j ≤ m → has t.from j ≡ true

  abbrev pub Tallied : ℕ → Acceptor → Tally → Type 0
  Tallied m a t = (IsPut t.word × (a.last ≡ 1)) ⊎ Counting m t

  module _ (put : IsPut own) (m l : ℕ) (w : Outcome) (a : Acceptor) (t : Tally) (low : a.highest ≤ 1) (room : suc m ≤ width) where
    -- what an answer leaves, given that the highest ballot reported is none
    abbrev After : BallotAnswer → Type 0
    After x = x.tally.top ≡ 0 → Tallied (suc m) x.acceptor x.tally

    puts : After (put_word 1 (word_for (counting t (suc m) l w) own) a (counting t (suc m) l w))
    unfolding put_word putting with_word
    puts z = inl (ap (λ (x : Tally). is_none x.word) (accept-tally n 1 own _ a _) ∙ worded, accept_takes _ a _ low)
      where
        top : (counting t (suc m) l w).top ≡ 0
        top = ap (λ (x : Tally). x.top) (sym (accept-tally n 1 own (word_for (counting t (suc m) l w) own) a (with_word (counting t (suc m) l w) (word_for (counting t (suc m) l w) own)))) ∙ z

        worded : IsPut (word_for (counting t (suc m) l w) own)
        worded = ap (λ (x : ℕ). is_none (cond (eqb x 0) own (counting t (suc m) l w).top_word)) top ∙ put

    more : (from : ℕ) → has from (suc m) ≡ true → ((j : ℕ) → 1 ≤ j → j ≤ m → has from j ≡ true) → (j : ℕ) → 1 ≤ j → j ≤ suc m → has from j ≡ true
    more from here there j lo hi = elim (ℕ_discrete j (suc m)) [
      | yes q ↦ subst (λ (x : ℕ). has from x ≡ true) (sym q) here
      | no q ↦ there j lo (omega arith)
    ]

    waits : Counting m t → majority n (counting t (suc m) l w).from ≡ false → After (unanswered a (counting t (suc m) l w))
    unfolding unanswered counting
    waits c e z = inr (record { blank = c.blank; few = e; counted = more (insert t.from (suc m)) (insert-own t.from (suc m) (omega arith) room) (λ j lo hi. insert-keeps t.from (suc m) j (c.counted j lo hi)) })

    again : Counting m t → counts t (suc m) ≡ false → After (unanswered a t)
    unfolding unanswered
    again c e z = inr (record { blank = c.blank; few = c.few; counted = more t.from (last_one (is_none t.word) (has t.from (suc m)) c.blank e) c.counted })

    pub promise_tallies : Tallied m a t → After (promise_arrives n 1 (suc m) l w own a t)
    unfolding promise_arrives put_if_majority
    promise_tallies (inl (p, q)) = by_cond After (counts t (suc m)) (put_if_majority n 1 own a (counting t (suc m) l w)) (unanswered a t)
        (λ e. absurd (no_both (is_none t.word) (and_l (is_none t.word) (not (has t.from (suc m))) e) p))
        (λ _ z. unfold unanswered in inl (p, q))
    promise_tallies (inr c) = by_cond After (counts t (suc m)) (put_if_majority n 1 own a (counting t (suc m) l w)) (unanswered a t)
        (λ _. by_cond After (majority n (counting t (suc m) l w).from) _ _ (λ _. puts) (λ e. waits c e))
        (λ e. again c e)

  pub open-low : (i : ℕ) (a : Acceptor) (t : Tally) → (open_ballot n 1 i own a t).acceptor.highest ≤ 1
  unfolding open_ballot giving
  open-low i a t = promise-low i a.last a.word (promising 1 a) t (unfold promising in omega arith)
