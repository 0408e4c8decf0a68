-- Facts on vote sets (document 01: sheets), for any n: who is on them, when they are complete and unanimous, and that a union does not
-- depend on order or repetition.
use Rattle.std.specs.Prelude.{ℕ, ◌≤◌, ◌≡◌, refl, Bool, true, false, ◌&&◌, ◌||◌, cond, List, eqb}
use Rattle.std.proofs.Common.{sym, ◌∙◌, inl, inr}
use Rattle.std.proofs.lemmas.Nat.{or_comm}
use Rattle.std.specs.Int.Bits.{or_zero_r}
use Rattle.ground.specs.Tests.{and_l, and_r, and_i, or-e, or_l, or_r, same_test}
use Rattle.ground.specs.Quantify.{all_to, all-at, all_of, Found}
use Rattle.ground.specs.Update.{upd}
use Rattle.ground.specs.Mask.{width, has, insert, full_to, within}
use Rattle.ground.proofs.MaskLaws.{has-none, has-insert, full_is, none_has}
use Rattle.ground.proofs.Inclusion.{or_assoc, within_has, has_within}
use Rattle.ground.specs.Lists.{nth}
use Rattle.votes.specs.VoteSets.{empty, knows, wills, single, union, complete, unanimous, union_all, Among}
use Rattle.votes.specs.Halves.{known_half, willing_half, on-union, in_all, on-all_by, same-sets}
use Rattle.votes.specs.declared.VoteSet.{VoteSet}

-- who is on a vote set ---------------------------------------------------------------

both : (s t : VoteSet) → s.known ≡ t.known → s.willing ≡ t.willing → s ≡ t
both s t p q = λ i. record { known = p i; willing = q i }

-- the vote set of one vote knows the one who cast it
pub single-knows : (i : ℕ) (willing : Bool) (k : ℕ) → 1 ≤ i → i ≤ width → knows (single i willing) k ≡ eqb k i
unfolding single upd
single-knows i willing k a b = has-insert 0 i k a b ∙ rw (has-none k) (alone (eqb k i))
  where
    alone : (x : Bool) → cond x true false ≡ x
    alone true = refl
    alone false = refl

-- and has that one as willing if the vote is: an absent or unwilling vote is never called willing
pub single-wills : (i : ℕ) (willing : Bool) (k : ℕ) → 1 ≤ i → i ≤ width → wills (single i willing) k ≡ (willing && eqb k i)
unfolding single
single-wills i true k a b = single-knows i true k a b
single-wills i false k a b = has-none k

-- a union knows whom either knows
pub union-knows : (s t : VoteSet) (k : ℕ) → knows (union s t) k ≡ (knows s k || knows t k)
union-knows = on-union known_half

-- and has as willing whom either has
pub union-wills : (s t : VoteSet) (k : ℕ) → wills (union s t) k ≡ (wills s k || wills t k)
union-wills = on-union willing_half

-- complete and unanimous ---------------------------------------------------------------

-- "full when all n are known": exactly if each of 1..n is
complete-is : (n : ℕ) (s : VoteSet) → complete n s ≡ all_to n (knows s)
unfolding complete
complete-is n s = full_is n s.known

-- a complete set knows each of 1..n
pub complete-knows : (n : ℕ) (s : VoteSet) → complete n s ≡ true → (k : ℕ) → 1 ≤ k → k ≤ n → knows s k ≡ true
complete-knows n s e = all-at n (knows s) (sym (complete-is n s) ∙ e)

-- and one that knows each of them is complete
pub knows-complete : (n : ℕ) (s : VoteSet) → ((k : ℕ) → 1 ≤ k → k ≤ n → knows s k ≡ true) → complete n s ≡ true
knows-complete n s h = complete-is n s ∙ all_of n (knows s) h

-- a unanimous set knows each of 1..n
pub unanimous-known : (n : ℕ) (s : VoteSet) → unanimous n s ≡ true → (k : ℕ) → 1 ≤ k → k ≤ n → knows s k ≡ true
unfolding unanimous
unanimous-known n s e = all-at n (knows s) (sym (full_is n s.known) ∙ and_l (full_to n s.known) (full_to n s.willing) e)

-- and has each as willing
pub unanimous-willing : (n : ℕ) (s : VoteSet) → unanimous n s ≡ true → (k : ℕ) → 1 ≤ k → k ≤ n → wills s k ≡ true
unfolding unanimous
unanimous-willing n s e = all-at n (wills s) (sym (full_is n s.willing) ∙ and_r (full_to n s.known) (full_to n s.willing) e)

-- one that knows each of them, and as willing, is unanimous
pub votes-unanimous : (n : ℕ) (s : VoteSet)
    → ((k : ℕ) → 1 ≤ k → k ≤ n → knows s k ≡ true)
    → ((k : ℕ) → 1 ≤ k → k ≤ n → wills s k ≡ true)
    → unanimous n s ≡ true
unfolding unanimous
votes-unanimous n s p q =
    and_i (full_to n s.known) (full_to n s.willing) (full_is n s.known ∙ all_of n (knows s) p) (full_is n s.willing ∙ all_of n (wills s) q)

-- "Move if all n are known and willing": exactly if each of 1..n is
pub unanimous-is : (n : ℕ) (s : VoteSet) → unanimous n s ≡ all_to n (λ k. knows s k && wills s k)
unanimous-is n s =
    same_test (unanimous n s) (all_to n (λ k. knows s k && wills s k))
    (λ e. all_of n (λ k. knows s k && wills s k) (λ k a b. and_i (knows s k) (wills s k) (unanimous-known n s e k a b) (unanimous-willing n s e k a b)))
    (λ e. votes-unanimous n s
    (λ k a b. and_l (knows s k) (wills s k) (all-at n (λ k. knows s k && wills s k) e k a b))
    (λ k a b. and_r (knows s k) (wills s k) (all-at n (λ k. knows s k && wills s k) e k a b)))

-- order and repetition -------------------------------------------------------------------

-- the order of two does not matter
pub union_comm : (s t : VoteSet) → union s t ≡ union t s
unfolding union
union_comm s t = both (union s t) (union t s) (or_comm s.known t.known) (or_comm s.willing t.willing)

-- nor which two of three are united first
pub union_assoc : (s t u : VoteSet) → union (union s t) u ≡ union s (union t u)
unfolding union
union_assoc s t u =
    both (union (union s t) u) (union s (union t u)) (or_assoc s.known t.known u.known) (or_assoc s.willing t.willing u.willing)

-- a union with a set that knows nobody changes nothing
pub union-empty : (s : VoteSet) → union s empty ≡ s
unfolding union
union-empty s = both (union s empty) s (or_zero_r s.known) (or_zero_r s.willing)

-- unions of unanimous sets ------------------------------------------------------------------

-- a union with a unanimous set is unanimous
pub union-unanimous : (n : ℕ) (s t : VoteSet) → unanimous n s ≡ true → unanimous n (union s t) ≡ true
union-unanimous n s t e =
    votes-unanimous n (union s t)
    (λ k a b. union-knows s t k ∙ or_l (knows s k) (knows t k) (unanimous-known n s e k a b))
    (λ k a b. union-wills s t k ∙ or_l (wills s k) (wills t k) (unanimous-willing n s e k a b))

-- unions of many ----------------------------------------------------------------------------

module _ (m from : ℕ) (l : List VoteSet) where
  -- what one sender's vote set knows, the union of all knows
  pub knows_in-all : (j : ℕ) → 1 ≤ j → j ≤ m → has from j ≡ true → (k : ℕ) → knows (nth empty l j) k ≡ true → knows (union_all m from l) k ≡ true
  knows_in-all = in_all known_half m from l

  pub wills_in-all : (j : ℕ) → 1 ≤ j → j ≤ m → has from j ≡ true → (k : ℕ) → wills (nth empty l j) k ≡ true → wills (union_all m from l) k ≡ true
  wills_in-all = in_all willing_half m from l

  -- what the union of all knows, some sender's vote set knows
  pub all-known_by : (k : ℕ) → knows (union_all m from l) k ≡ true → Found m (λ j. has from j && knows (nth empty l j) k)
  all-known_by = on-all_by known_half m from l

  pub all_willed_by : (k : ℕ) → wills (union_all m from l) k ≡ true → Found m (λ j. has from j && wills (nth empty l j) k)
  all_willed_by = on-all_by willing_half m from l

  -- the union is unanimous where one sender's vote set is
  pub all-unanimous : (n j : ℕ) → 1 ≤ j → j ≤ m → has from j ≡ true → unanimous n (nth empty l j) ≡ true → unanimous n (union_all m from l) ≡ true
  all-unanimous n j a b p e =
      votes-unanimous n (union_all m from l)
      (λ k x y. knows_in-all j a b p k (unanimous-known n (nth empty l j) e k x y))
      (λ k x y. wills_in-all j a b p k (unanimous-willing n (nth empty l j) e k x y))

-- The union depends only on which vote sets are united: not on their order, on who sent them or on how many sent the same.
pub all_same : (m from : ℕ) (l : List VoteSet) (m' from' : ℕ) (l' : List VoteSet)
    → ((s : VoteSet) → Among m from l s → Among m' from' l' s)
    → ((s : VoteSet) → Among m' from' l' s → Among m from l s)
    → union_all m from l ≡ union_all m' from' l'
all_same m from l m' from' l' f g =
    both (union_all m from l) (union_all m' from' l') (same-sets known_half m from l m' from' l' f g) (same-sets willing_half m from l m' from' l' f g)

-- "willing (within known)" ---------------------------------------------------------------------

-- the vote set of one vote has it so
pub single-within : (i : ℕ) (willing : Bool) → within (single i willing).willing (single i willing).known ≡ true
unfolding single
single-within i true = has_within (insert 0 i) (insert 0 i) (λ k e. e)
single-within i false = has_within 0 (insert 0 i) (λ k e. none_has k e)

-- a union of two that have it so does
pub union-within : (s t : VoteSet) → within s.willing s.known ≡ true → within t.willing t.known ≡ true
    → within (union s t).willing (union s t).known ≡ true
union-within s t p q = has_within (union s t).willing (union s t).known (λ k e. union-knows s t k ∙ either k (sym (union-wills s t k) ∙ e))
  where
    either : (k : ℕ) → (wills s k || wills t k) ≡ true → (knows s k || knows t k) ≡ true
    either k e = elim (or-e (wills s k) (wills t k) e) [
      | inl h ↦ or_l (knows s k) (knows t k) (within_has s.willing s.known p k h)
      | inr h ↦ or_r (knows s k) (knows t k) (within_has t.willing t.known q k h)
    ]
