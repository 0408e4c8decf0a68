-- Facts on joining, for any n. All of them go by one law over the element: two vote sets agree exactly if each controller known to both is willing in both
-- or in neither (`agree_at`, `at_agree`).
use Prim.Native.Nat.{ℕ, zero, suc, ◌+◌, ◌-◌, ◌≤◌}
use Rattle.std.specs.Prelude.{◌≡◌, Bool, ◌&&◌, ◌||◌, List, [], ◌∷◌, ◌++◌, length, eqb}
use Rattle.std.proofs.Math.Path.{refl, sym, ap}
use Rattle.std.proofs.Common.{◌∙◌, true≢false, arith, zero-add, suc-add, eqb-true, eq-eqb}
use Rattle.std.proofs.Math.Bool.{true, false, not, cond, and_assoc, or_self, or-false}
use Rattle.std.proofs.lemmas.Bool.{false≢true, not-true, not-false}
use Rattle.std.specs.Int.Bits.{bit_and, bit_xor, xor_comm}
use Rattle.std.proofs.lemmas.Nat.{and_comm}
use Rattle.std.proofs.Math.Logic.{inl, inr}
use Rattle.ground.specs.Tests.{split, no_both, refuted, and_l, and_r, and_i, or_l, or_r, same_test, by_cond, or-second}
use Rattle.ground.specs.Quantify.{Found}
use Rattle.ground.specs.Mask.{has, within}
use Rattle.ground.proofs.MaskLaws.{has_and, has_xor, has-none, none_has}
use Rattle.ground.proofs.Inclusion.{empty-zero, some-member, within_has}
use Rattle.ground.specs.Lists.{nth, nth_past}
use Rattle.votes.specs.VoteSets.{empty, knows, wills, union, union_all}
use Rattle.votes.proofs.VoteLaws.{union-knows, union-wills, union_comm, union_assoc, union-empty, union-within}
use Rattle.votes.specs.Joining.{disputed, contradicts, join, agreed_or, join_next, join_from, join_list, join_all, agrees_with, pairwise}
use Rattle.votes.specs.Tallies.{union_list, sets_of}
use Rattle.votes.specs.Contradictions.{WellFormed, AllWellFormed, Differ}
use Rattle.votes.specs.declared.VoteSet.{VoteSet}
use Rattle.votes.specs.Joining.{Joined}
use Rattle.std.specs.Prelude.{Ok, Err}
use Rattle.votes.specs.declared.JoinError.TheVariants.{Contradiction}

-- the element -------------------------------------------------------------------------

disputed-at : (s t : VoteSet) (k : ℕ) → has (disputed s t) k ≡ (knows s k && knows t k && cond (wills t k) (not (wills s k)) (wills s k))
disputed-at s t k = rw (has_and (bit_and s.known t.known) (bit_xor s.willing t.willing) k, has_and s.known t.known k, has_xor s.willing t.willing k)

equal_bits : (x y : Bool) → cond y (not x) x ≡ false → x ≡ y
equal_bits true true e = refl
equal_bits true false e = absurd (true≢false e)
equal_bits false true e = absurd (true≢false e)
equal_bits false false e = refl

unequal_bits : (x y : Bool) → cond y (not x) x ≡ true → x ≡ not y
unequal_bits true true e = absurd (false≢true e)
unequal_bits true false e = refl
unequal_bits false true e = refl
unequal_bits false false e = absurd (false≢true e)

same_bits : (x y : Bool) → x ≡ y → cond y (not x) x ≡ false
same_bits true true e = refl
same_bits true false e = e
same_bits false true e = sym e
same_bits false false e = refl

module _ (s t : VoteSet) where
  -- vote sets that agree have each controller known to both alike
  pub agree_at : contradicts s t ≡ false → (k : ℕ) → knows s k ≡ true → knows t k ≡ true → wills s k ≡ wills t k
  unfolding contradicts
  agree_at e k p q = equal_bits (wills s k) (wills t k)
      (refuted (cond (wills t k) (not (wills s k)) (wills s k)) (λ d. no_both (has (disputed s t) k) (disputed-at s t k ∙ and_i (knows s k && knows t k) _ (and_i (knows s k) (knows t k) p q) d) nobody))
    where
      nobody : has (disputed s t) k ≡ false
      nobody = ap (λ (m : ℕ). has m k) (eqb-true (disputed s t) 0 (not-false _ e)) ∙ has-none k

  -- and vote sets that have them alike agree
  pub at_agree : ((k : ℕ) → knows s k ≡ true → knows t k ≡ true → wills s k ≡ wills t k) → contradicts s t ≡ false
  unfolding contradicts
  at_agree h = ap not (eq-eqb (disputed s t) 0 (empty-zero (disputed s t) (λ k. refuted (has (disputed s t) k) (alike k))))
    where
      alike : (k : ℕ) → has (disputed s t) k ≡ true → ⊥
      alike k e =
          let d : (knows s k && knows t k && cond (wills t k) (not (wills s k)) (wills s k)) ≡ true = sym (disputed-at s t k) ∙ e in
          let b : (knows s k && knows t k) ≡ true = and_l (knows s k && knows t k) _ d in
          no_both _ (and_r (knows s k && knows t k) _ d) (same_bits (wills s k) (wills t k) (h k (and_l (knows s k) (knows t k) b) (and_r (knows s k) (knows t k) b)))

  pub contradict-differ : contradicts s t ≡ true → Differ s t
  unfolding contradicts
  contradict-differ e =
      let r : Found (disputed s t) (has (disputed s t)) = some-member (disputed s t) (not-true (eqb (disputed s t) 0) e) in
      let d : (knows s r.at && knows t r.at && cond (wills t r.at) (not (wills s r.at)) (wills s r.at)) ≡ true = sym (disputed-at s t r.at) ∙ r.holds in
      let b : (knows s r.at && knows t r.at) ≡ true = and_l (knows s r.at && knows t r.at) _ d in
      record {
        who = r.at;
        known = and_l (knows s r.at) (knows t r.at) b;
        known_too = and_r (knows s r.at) (knows t r.at) b;
        willing = unequal_bits (wills s r.at) (wills t r.at) (and_r (knows s r.at && knows t r.at) _ d);
      }

  pub differ-contradicts : Differ s t → contradicts s t ≡ true
  differ-contradicts d = elim (split (contradicts s t)) [
    | inl e ↦ e
    | inr e ↦ absurd (unlike (wills s d.who) (wills t d.who) (agree_at e d.who d.known d.known_too) d.willing)
  ]
    where
      unlike : (x y : Bool) → x ≡ y → x ≡ not y → ⊥
      unlike true true p q = true≢false q
      unlike true false p q = true≢false p
      unlike false true p q = false≢true p
      unlike false false p q = false≢true q

  pub contradicts_swap : contradicts s t ≡ contradicts t s
  unfolding contradicts
  contradicts_swap = rw (and_comm s.known t.known, xor_comm s.willing t.willing)

  -- where two vote sets agree, their join is the union
  pub join-agreed : contradicts s t ≡ false → join s t ≡ Ok (union s t)
  unfolding join
  join-agreed e = rw e

  pub join-refused : contradicts s t ≡ true → join s t ≡ Err Contradiction
  unfolding join
  join-refused e = rw e

  pub join_swap : join s t ≡ join t s
  unfolding join
  join_swap = rw (contradicts_swap, union_comm s t)

  -- whatever is joined to it, a vote set keeps whom it knows, if it is left as it was where there is no join
  pub keeps-known : (k : ℕ) → knows s k ≡ true → knows (agreed_or s (join s t)) k ≡ true
  keeps-known k e = elim (split (contradicts s t)) [
    | inl q ↦ ap (λ (j : Joined). knows (agreed_or s j) k) (join-refused q) ∙ e
    | inr q ↦ ap (λ (j : Joined). knows (agreed_or s j) k) (join-agreed q) ∙ union-knows s t k ∙ or_l (knows s k) (knows t k) e
  ]

-- the vote set that knows nobody contradicts none
pub empty-agrees : (s : VoteSet) → contradicts empty s ≡ false
empty-agrees s = at_agree empty s (λ k p q. none_has k p)

agreed-is : (s t : VoteSet) → ◌≡◌ {A = Joined} (Ok s) (Ok t) → s ≡ t
agreed-is s t e = cc

-- the whole ---------------------------------------------------------------------------

-- of two vote sets that agree, the union has whom one of them knows as that one does
union_as : (s t : VoteSet) → WellFormed t → contradicts s t ≡ false → (k : ℕ) → knows s k ≡ true → wills (union s t) k ≡ wills s k
union_as s t w e k p = union-wills s t k ∙ elim (split (knows t k)) [
  | inl q ↦ rw (sym (agree_at s t e k p q)) (or_self (wills s k))
  | inr q ↦ rw (refuted (wills t k) (λ x. no_both (knows t k) (within_has t.willing t.known w k x) q)) (or-false (wills s k))
]

-- what contradicts one of them contradicts their union, and nothing else does
union-contradicts : (s t u : VoteSet) → WellFormed s → WellFormed t → contradicts s t ≡ false → contradicts (union s t) u ≡ (contradicts s u || contradicts t u)
union-contradicts s t u a b e = same_test (contradicts (union s t) u) (contradicts s u || contradicts t u) part whole
  where
    back : contradicts t s ≡ false
    back = contradicts_swap t s ∙ e

    as_t : (k : ℕ) → knows t k ≡ true → wills (union s t) k ≡ wills t k
    as_t k p = ap (λ (x : VoteSet). wills x k) (union_comm s t) ∙ union_as t s a back k p

    -- a part of a whole that agrees with u agrees with it
    agrees-s : contradicts (union s t) u ≡ false → contradicts s u ≡ false
    agrees-s h = at_agree s u (λ k p q. sym (union_as s t b e k p) ∙ agree_at (union s t) u h k (union-knows s t k ∙ or_l (knows s k) (knows t k) p) q)

    agrees_t : contradicts (union s t) u ≡ false → contradicts t u ≡ false
    agrees_t h = at_agree t u (λ k p q. sym (as_t k p) ∙ agree_at (union s t) u h k (union-knows s t k ∙ or_r (knows s k) (knows t k) p) q)

    whole : (contradicts s u || contradicts t u) ≡ true → contradicts (union s t) u ≡ true
    whole h = elim (split (contradicts (union s t) u)) [
      | inl x ↦ x
      | inr x ↦ absurd (no_both (contradicts s u || contradicts t u) h (rw (agrees-s x, agrees_t x)))
    ]

    neither : contradicts s u ≡ false → contradicts t u ≡ false → contradicts (union s t) u ≡ false
    neither p q = at_agree (union s t) u (λ k x y. elim (split (knows s k)) [
      | inl z ↦ union_as s t b e k z ∙ agree_at s u p k z y
      | inr z ↦ let v : knows t k ≡ true = or-second (knows s k) (knows t k) z (sym (union-knows s t k) ∙ x) in as_t k v ∙ agree_at t u q k v y
    ])

    part : contradicts (union s t) u ≡ true → (contradicts s u || contradicts t u) ≡ true
    part h = elim (split (contradicts s u)) [
      | inl p ↦ or_l (contradicts s u) (contradicts t u) p
      | inr p ↦ elim (split (contradicts t u)) [
        | inl q ↦ or_r (contradicts s u) (contradicts t u) q
        | inr q ↦ absurd (no_both (contradicts (union s t) u) h (neither p q))
      ]
    ]

pub monotone : (s t u w : VoteSet) → WellFormed s → WellFormed t → join s t ≡ Ok w → contradicts w u ≡ (contradicts s u || contradicts t u)
monotone s t u w a b e = elim (split (contradicts s t)) [
  | inl x ↦ absurd (never (sym (join-refused s t x) ∙ e))
  | inr x ↦ ap (λ (y : VoteSet). contradicts y u) (sym (agreed-is (union s t) w (sym (join-agreed s t x) ∙ e))) ∙ union-contradicts s t u a b x
]
  where
    never : (Err Contradiction) ≡ Ok w → ⊥
    never z = let y : ◌≡◌ {A = ℕ} 0 1 = cc in omega arith

-- lists -------------------------------------------------------------------------------

-- a contradiction stays one
from_contradiction : (sets : List VoteSet) → join_from (Err Contradiction) sets ≡ Err Contradiction
unfolding join_from
from_contradiction [] = refl
from_contradiction (s ∷ sets) = from_contradiction sets

-- a union agrees with those with which both its parts agree
union-agrees : (s t : VoteSet) → WellFormed s → WellFormed t → contradicts s t ≡ false → (sets : List VoteSet) → agrees_with (union s t) sets ≡ (agrees_with s sets && agrees_with t sets)
unfolding agrees_with
union-agrees s t a b e [] = refl
union-agrees s t a b e (u ∷ sets) = rw (union-contradicts s t u a b e, union-agrees s t a b e sets) (both (contradicts s u) (contradicts t u) (agrees_with s sets) (agrees_with t sets))
  where
    both : (x y p q : Bool) → (not (x || y) && (p && q)) ≡ ((not x && p) && (not y && q))
    both true y p q = refl
    both false true true q = refl
    both false true false q = refl
    both false false p q = refl

empty-agrees-all : (sets : List VoteSet) → agrees_with empty sets ≡ true
unfolding agrees_with
empty-agrees-all [] = refl
empty-agrees-all (s ∷ sets) = rw (empty-agrees s, empty-agrees-all sets)

-- from any vote set on, the join is there exactly when the vote set and the rest agree pairwise
from-any : (w : VoteSet) (sets : List VoteSet) → WellFormed w → AllWellFormed sets
    → join_from (Ok w) sets ≡ cond (agrees_with w sets && pairwise sets) (Ok (union w (union_list sets))) (Err Contradiction)
unfolding join_from agrees_with pairwise union_list
from-any w [] a b = ap Ok (sym (union-empty w))
from-any w (s ∷ sets) a b = elim (split (contradicts w s)) [
  | inl e ↦ rw (join-refused w s e, e) (from_contradiction sets)
  | inr e ↦ rw (join-agreed w s e, e)
      (from-any (union w s) sets (union-within w s a b.0) b.1 ∙ rw (union-agrees w s a b.0 e sets, union_assoc w s (union_list sets), and_assoc (agrees_with w sets) (agrees_with s sets) (pairwise sets)))
]

pub list-is : (sets : List VoteSet) → AllWellFormed sets → join_list sets ≡ cond (pairwise sets) (Ok (union_list sets)) (Err Contradiction)
list-is sets a = from-any empty sets (unfold within in refl) a ∙ rw (empty-agrees-all sets, union_comm empty (union_list sets), union-empty (union_list sets))

-- senders -----------------------------------------------------------------------------

from-append : (j : Joined) (a b : List VoteSet) → join_from j (a ++ b) ≡ join_from (join_from j a) b
unfolding join_from
from-append j [] b = refl
from-append j (s ∷ a) b = from-append (join_next j s) a b

-- the join of the vote sets of a set of senders is that of their list
pub senders-list : (m from : ℕ) (l : List VoteSet) → join_list (sets_of m from l) ≡ join_all m from l
unfolding sets_of join_all join_from
senders-list zero from l = refl
senders-list (suc m) from l =
    from-append (Ok empty) (sets_of m from l) (cond (has from (suc m)) (nth empty l (suc m) ∷ []) []) ∙ rw (senders-list m from l) (last (has from (suc m)))
  where
    last : (b : Bool) → join_from (join_all m from l) (cond b (nth empty l (suc m) ∷ []) []) ≡ cond b (join_next (join_all m from l) (nth empty l (suc m))) (join_all m from l)
    last true = refl
    last false = refl

-- a vote set that knows nobody adds nothing
next-empty : (j : Joined) → join_next j empty ≡ j
next-empty (Ok s) = join-agreed s empty (contradicts_swap s empty ∙ empty-agrees s) ∙ ap Ok (union-empty s)
next-empty (Err Contradiction) = refl

further : (d n from : ℕ) (l : List VoteSet) → length l ≤ n → join_all (d + n) from l ≡ join_all n from l
unfolding join_all
further zero n from l h = rw zero-add
further (suc d) n from l h =
    rw suc-add (by_cond (λ (j : Joined). j ≡ join_all n from l) (has from (suc (d + n)))
    (join_next (join_all (d + n) from l) (nth empty l (suc (d + n)))) (join_all (d + n) from l)
    (λ _. rw (nth_past empty l (suc (d + n)) (omega arith), next-empty (join_all (d + n) from l)) (further d n from l h))
    (λ _. further d n from l h))

-- senders past the end of the list add nothing
pub join-past : (m n from : ℕ) (l : List VoteSet) → length l ≤ n → n ≤ m → join_all m from l ≡ join_all n from l
join-past m n from l h k = let e : m ≡ (m - n) + n = omega arith in ap (λ (x : ℕ). join_all x from l) e ∙ further (m - n) n from l h

-- a contradiction among the first senders is one among all
pub join_absorbs : (d m from : ℕ) (l : List VoteSet) → join_all m from l ≡ Err Contradiction → join_all (d + m) from l ≡ Err Contradiction
unfolding join_all
join_absorbs zero m from l e = rw zero-add e
join_absorbs (suc d) m from l e =
    rw (suc-add, join_absorbs d m from l e) (by_cond (λ (j : Joined). j ≡ (Err Contradiction)) (has from (suc (d + m))) (Err Contradiction) (Err Contradiction) (λ _. refl) (λ _. refl))

list-append : (a b : List VoteSet) → union_list (a ++ b) ≡ union (union_list a) (union_list b)
unfolding union_list
list-append [] b = sym (union_comm empty (union_list b) ∙ union-empty (union_list b))
list-append (s ∷ a) b = ap (union s) (list-append a b) ∙ sym (union_assoc s (union_list a) (union_list b))

senders-union : (m from : ℕ) (l : List VoteSet) → union_list (sets_of m from l) ≡ union_all m from l
unfolding sets_of union_all union_list
senders-union zero from l = refl
senders-union (suc m) from l =
    list-append (sets_of m from l) (cond (has from (suc m)) (nth empty l (suc m) ∷ []) []) ∙ rw (senders-union m from l) (last (has from (suc m)))
  where
    last : (b : Bool) → union (union_all m from l) (union_list (cond b (nth empty l (suc m) ∷ []) [])) ≡ cond b (union (union_all m from l) (nth empty l (suc m))) (union_all m from l)
    last true = ap (union (union_all m from l)) (union-empty (nth empty l (suc m)))
    last false = union-empty (union_all m from l)

pub senders_are : (m from : ℕ) (l : List VoteSet) → AllWellFormed (sets_of m from l) → join_all m from l ≡ cond (pairwise (sets_of m from l)) (Ok (union_all m from l)) (Err Contradiction)
senders_are m from l a = sym (senders-list m from l) ∙ list-is (sets_of m from l) a ∙ ap (λ (s : VoteSet). cond (pairwise (sets_of m from l)) (Ok s) (Err Contradiction)) (senders-union m from l)

-- Vote sets of which a fact is known that joins keep, and by which two of them agree: their join is there, and is the union.
module _ (P : VoteSet → Type 0) (none : P empty) (both : (s t : VoteSet) → P s → P t → P (union s t)) (agree : (s t : VoteSet) → P s → P t → contradicts s t ≡ false) where
  pub all_fact : (m from : ℕ) (l : List VoteSet) → ((j : ℕ) → has from j ≡ true → P (nth empty l j)) → P (union_all m from l)
  unfolding union_all
  all_fact zero from l h = none
  all_fact (suc m) from l h = by_cond P (has from (suc m)) _ _ (λ e. both _ _ (all_fact m from l h) (h (suc m) e)) (λ e. all_fact m from l h)

  pub all-agreed : (m from : ℕ) (l : List VoteSet) → ((j : ℕ) → has from j ≡ true → P (nth empty l j)) → join_all m from l ≡ Ok (union_all m from l)
  unfolding join_all union_all
  all-agreed zero from l h = refl
  all-agreed (suc m) from l h = elim (split (has from (suc m))) [
    | inl e ↦ rw (e, all-agreed m from l h) (join-agreed (union_all m from l) (nth empty l (suc m)) (agree _ _ (all_fact m from l h) (h (suc m) e)))
    | inr e ↦ rw e (all-agreed m from l h)
  ]
