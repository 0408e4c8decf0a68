-- What the code's loop over the senders computes, said by the definition.
use Prim.Native.Nat.{ℕ, suc, ◌+◌, ◌-◌, ◌≤◌, min}
use mathlib.Core.Path.{◌≡◌, sym, ◌∙◌, ap}
use native.Mathlib.Omega.{arith}
use mathlib.Core.Bool.{true, false}
use mathlib.Core.List.{List}
use native.Mathlib.Decide.{dec_le}
use lib.ListN.{length}
use Rattle.ground.specs.Lists.{nth}
use Rattle.ground.specs.Mask.{has}
use Rattle.votes.specs.VoteSets.{empty}
use Rattle.votes.specs.Joining.{join, join_all}
use Rattle.votes.proofs.JoinLaws.{join-past, join_absorbs}
use Rattle.votes.specs.declared.VoteSet.{VoteSet}
use Rattle.votes.specs.Joining.{Joined}
use Rattle.std.specs.Prelude.{Ok, Err}
use Rattle.votes.specs.declared.JoinError.{JoinError}
use Rattle.votes.specs.declared.JoinError.TheVariants.{Contradiction}

-- one sender more: left out, or joined
pub skipped : (k from : ℕ) (l : List VoteSet) (j : Joined) → has from (k + 1) ≡ false → join_all k from l ≡ j → join_all (k + 1) from l ≡ j
unfolding join_all
skipped k from l j e q = let z : k + 1 ≡ suc k = omega arith in rw (z, rw z at e) q

pub added : (k from : ℕ) (l : List VoteSet) (w : VoteSet) (j : Joined) → has from (k + 1) ≡ true → join_all k from l ≡ Ok w → j ≡ join w (nth empty l (suc k)) → join_all (k + 1) from l ≡ j
unfolding join_all
added k from l w j e q r = let z : k + 1 ≡ suc k = omega arith in rw (z, rw z at e, q) (sym r)

-- the vote sets of as many senders as the list has are those of all
pub joined-all : (m n from : ℕ) (l : List VoteSet) → length l ≡ n → join_all (min m n) from l ≡ join_all m from l
joined-all m n from l e = elim (dec_le m n) [
  | yes h ↦ ap (λ (x : ℕ). join_all x from l) (omega arith)
  | no h ↦ ap (λ (x : ℕ). join_all x from l) (omega arith) ∙ sym (join-past m n from l (omega arith) (omega arith))
]

-- a contradiction among the first k of them is one among all
pub contradicted-all : (k m n from : ℕ) (l : List VoteSet) (e : JoinError) → length l ≡ n → k ≤ min m n → join_all k from l ≡ Err e → join_all m from l ≡ Err e
contradicted-all k m n from l Contradiction e h q =
    let z : min m n ≡ (min m n - k) + k = omega arith in
    sym (joined-all m n from l e) ∙ (ap (λ (x : ℕ). join_all x from l) z ∙ join_absorbs (min m n - k) k from l q)
