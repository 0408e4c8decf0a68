-- The join depends only on which vote sets are joined: not on their sequence, on who sent them or on how many sent the same. That no two of a list contradict
-- each other is a fact on its members, and the members of the list that is joined are the vote sets of the senders. With it `Contradictions` is whole.
use Prim.Native.Nat.{ℕ, zero, suc, ◌≤◌}
use Rattle.std.specs.Prelude.{◌≡◌, Bool, not, cond, List, [], ◌∷◌, ◌++◌, ◌⊎◌}
use Rattle.std.proofs.Math.Path.{refl, subst}
use Rattle.std.proofs.Common.{sym, ◌∙◌, ap}
use Rattle.std.proofs.Math.Bool.{true, false}
use Rattle.std.proofs.Math.Logic.{inl, inr}
use native.Mathlib.Omega.{arith}
use Rattle.std.proofs.Math.Decide.{dec_le}
use Rattle.std.proofs.lemmas.Bool.{not-true}
use Rattle.ground.specs.Tests.{and_l, and_r, and_i, same_test}
use Rattle.ground.specs.Lists.{nth}
use Rattle.ground.specs.Mask.{has}
use Rattle.votes.specs.VoteSets.{empty, union_all, Among}
use Rattle.votes.proofs.VoteLaws.{all_same}
use Rattle.votes.specs.Joining.{contradicts, joined_number, joined_values, join_all, agrees_with, pairwise}
use Rattle.votes.specs.Tallies.{sets_of}
use Rattle.votes.specs.Contradictions.{AllWellFormed, Contradictions}
use Rattle.votes.proofs.JoinLaws.{at_agree, contradict-differ, differ-contradicts, contradicts_swap, join-refused, join-agreed, join_swap, monotone, list-is, senders_are}
use Rattle.votes.specs.declared.VoteSet.{VoteSet}
use Rattle.votes.specs.Joining.{Joined}
use Rattle.std.specs.Prelude.{Ok, Err}
use Rattle.votes.specs.declared.JoinError.TheVariants.{Contradiction}

abbrev In : VoteSet → List VoteSet → Type 0
In s [] = ⊥
In s (x ∷ xs) = (x ≡ s) ⊎ In s xs

agrees_in : (s t : VoteSet) (xs : List VoteSet) → agrees_with s xs ≡ true → In t xs → contradicts s t ≡ false
unfolding agrees_with
agrees_in s t [] e i = absurd i
agrees_in s t (x ∷ xs) e (inl p) = subst (λ (u : VoteSet). contradicts s u ≡ false) p (not-true (contradicts s x) (and_l (not (contradicts s x)) (agrees_with s xs) e))
agrees_in s t (x ∷ xs) e (inr i) = agrees_in s t xs (and_r (not (contradicts s x)) (agrees_with s xs) e) i

in-agrees : (s : VoteSet) (xs : List VoteSet) → ((t : VoteSet) → In t xs → contradicts s t ≡ false) → agrees_with s xs ≡ true
unfolding agrees_with
in-agrees s [] h = refl
in-agrees s (x ∷ xs) h = and_i (not (contradicts s x)) (agrees_with s xs) (ap not (h x (inl refl))) (in-agrees s xs (λ t i. h t (inr i)))

agrees_self : (s : VoteSet) → contradicts s s ≡ false
agrees_self s = at_agree s s (λ k p q. refl)

pair_in : (xs : List VoteSet) → pairwise xs ≡ true → (s t : VoteSet) → In s xs → In t xs → contradicts s t ≡ false
unfolding pairwise
pair_in [] e s t i j = absurd i
pair_in (x ∷ xs) e s t (inl p) (inl q) = subst (λ (u : VoteSet). contradicts s u ≡ false) (sym p ∙ q) (agrees_self s)
pair_in (x ∷ xs) e s t (inl p) (inr j) = subst (λ (u : VoteSet). contradicts u t ≡ false) p (agrees_in x t xs (and_l (agrees_with x xs) (pairwise xs) e) j)
pair_in (x ∷ xs) e s t (inr i) (inl q) = contradicts_swap s t ∙ subst (λ (u : VoteSet). contradicts u s ≡ false) q (agrees_in x s xs (and_l (agrees_with x xs) (pairwise xs) e) i)
pair_in (x ∷ xs) e s t (inr i) (inr j) = pair_in xs (and_r (agrees_with x xs) (pairwise xs) e) s t i j

in_pair : (xs : List VoteSet) → ((s t : VoteSet) → In s xs → In t xs → contradicts s t ≡ false) → pairwise xs ≡ true
unfolding pairwise
in_pair [] h = refl
in_pair (x ∷ xs) h = and_i (agrees_with x xs) (pairwise xs) (in-agrees x xs (λ t i. h x t (inl refl) (inr i))) (in_pair xs (λ s t i j. h s t (inr i) (inr j)))

-- the members of two lists together
in_left : (s : VoteSet) (a b : List VoteSet) → In s a → In s (a ++ b)
in_left s [] b i = absurd i
in_left s (x ∷ a) b (inl p) = inl p
in_left s (x ∷ a) b (inr i) = inr (in_left s a b i)

in_right : (s : VoteSet) (a b : List VoteSet) → In s b → In s (a ++ b)
in_right s [] b i = i
in_right s (x ∷ a) b i = inr (in_right s a b i)

in_either : (s : VoteSet) (a b : List VoteSet) → In s (a ++ b) → In s a ⊎ In s b
in_either s [] b i = inr i
in_either s (x ∷ a) b (inl p) = inl (inl p)
in_either s (x ∷ a) b (inr i) = elim (in_either s a b i) [ inl h ↦ inl (inr h) | inr h ↦ inr h ]

module _ (from : ℕ) (l : List VoteSet) (s : VoteSet) where
  in_senders : (m : ℕ) → In s (sets_of m from l) → Among m from l s
  unfolding sets_of
  in_senders zero i = absurd i
  in_senders (suc m) i = elim (in_either s (sets_of m from l) (cond (has from (suc m)) (nth empty l (suc m) ∷ []) []) i) [
    | inl h ↦ let a : Among m from l s = in_senders m h in let low : 1 ≤ a.sender = a.low in let high : a.sender ≤ m = a.high in record { sender = a.sender; low = low; high = omega arith; sent = a.sent; set = a.set }
    | inr h ↦ last (has from (suc m)) refl h
  ]
    where
      last : (b : Bool) → has from (suc m) ≡ b → In s (cond b (nth empty l (suc m) ∷ []) []) → Among (suc m) from l s
      last true e (inl p) = record { sender = suc m; low = omega arith; high = omega arith; sent = e; set = p }
      last true e (inr h) = absurd h
      last false e h = absurd h

  senders_in : (m : ℕ) → Among m from l s → In s (sets_of m from l)
  unfolding sets_of
  senders_in zero a = let low : 1 ≤ a.sender = a.low in let high : a.sender ≤ 0 = a.high in absurd (omega arith)
  senders_in (suc m) a = elim (dec_le a.sender m) [
    | yes h ↦ in_left s (sets_of m from l) _ (senders_in m (record { sender = a.sender; low = a.low; high = h; sent = a.sent; set = a.set }))
    | no h ↦ in_right s (sets_of m from l) _ (last h)
  ]
    where
      last : (a.sender ≤ m → ⊥) → In s (cond (has from (suc m)) (nth empty l (suc m) ∷ []) [])
      last h =
          let high : a.sender ≤ suc m = a.high in
          let e : a.sender ≡ suc m = omega arith in
          subst (λ (k : ℕ). In s (cond (has from k) (nth empty l k ∷ []) [])) e (rw a.sent (inl a.set))

only-members : (m from : ℕ) (l : List VoteSet) (m' from' : ℕ) (l' : List VoteSet) → AllWellFormed (sets_of m from l) → AllWellFormed (sets_of m' from' l')
    → ((s : VoteSet) → Among m from l s → Among m' from' l' s)
    → ((s : VoteSet) → Among m' from' l' s → Among m from l s)
    → join_all m from l ≡ join_all m' from' l'
only-members m from l m' from' l' a a' f g = senders_are m from l a ∙ same ∙ sym (senders_are m' from' l' a')
  where
    over : (m from : ℕ) (l : List VoteSet) (m' from' : ℕ) (l' : List VoteSet) → ((s : VoteSet) → Among m' from' l' s → Among m from l s) → pairwise (sets_of m from l) ≡ true → pairwise (sets_of m' from' l') ≡ true
    over m from l m' from' l' g e = in_pair (sets_of m' from' l') (λ s t i j. pair_in (sets_of m from l) e s t (senders_in from l s m (g s (in_senders from' l' s m' i))) (senders_in from l t m (g t (in_senders from' l' t m' j))))

    same : cond (pairwise (sets_of m from l)) (Ok (union_all m from l)) (Err Contradiction) ≡ cond (pairwise (sets_of m' from' l')) (Ok (union_all m' from' l')) (Err Contradiction)
    same = ap (λ (b : Bool). cond b (Ok (union_all m from l)) (Err Contradiction)) (same_test _ _ (over m from l m' from' l' g) (over m' from' l' m from l f))
        ∙ ap (λ (u : VoteSet). cond (pairwise (sets_of m' from' l')) (Ok u) (Err Contradiction)) (all_same m from l m' from' l' f g)

-- a join in the papers' terms
number_of : (b : Bool) (s : VoteSet) → joined_number (cond b (Ok s) (Err Contradiction)) ≡ cond b 0 24
number_of true s = refl
number_of false s = refl

values_of : (b : Bool) (s : VoteSet) → joined_values (cond b (Ok s) (Err Contradiction)) ≡ cond b (s ∷ []) []
values_of true s = refl
values_of false s = refl

pub contradictions : Contradictions
contradictions = record {
  differ = contradict-differ;
  differs = differ-contradicts;
  symmetric = join_swap;
  refused = λ s t e. (ap (λ (j : Joined). joined_number j) (join-refused s t e), ap (λ (j : Joined). joined_values j) (join-refused s t e));
  agreed = λ s t e. (ap (λ (j : Joined). joined_number j) (join-agreed s t e), ap (λ (j : Joined). joined_values j) (join-agreed s t e));
  monotone = monotone;
  any-list = list-is;
  any_senders = senders_are;
  numbers = λ m from l a. ap (λ (j : Joined). joined_number j) (senders_are m from l a) ∙ number_of (pairwise (sets_of m from l)) (union_all m from l);
  values = λ m from l a. ap (λ (j : Joined). joined_values j) (senders_are m from l a) ∙ values_of (pairwise (sets_of m from l)) (union_all m from l);
  only-members = only-members;
}
