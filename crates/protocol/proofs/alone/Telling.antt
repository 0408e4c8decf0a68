-- Vote sets that tell the same word of each controller that they know: no two of them contradict each other, and their join is such a vote set. What a controller
-- holds is such, and stays so with one vote set more that contradicts none of it.
use Prim.Native.Nat.{ℕ, ◌≤◌}
use mathlib.Core.Path.{◌≡◌, sym, ◌∙◌, ap, subst}
use mathlib.Core.Bool.{Bool, true, false, ◌&&◌, ◌||◌, cond}
use mathlib.Core.List.{List}
use mathlib.Core.Logic.{◌⊎◌, inl, inr}
use Rattle.ground.specs.Tests.{split, and_l, and_r, and_i, or-e, or_l, or_r, same_test}
use Rattle.ground.specs.Quantify.{any_to, any_of, any_at, Found}
use Rattle.ground.specs.Mask.{has}
use Rattle.ground.proofs.MaskLaws.{none_has}
use Rattle.ground.specs.Lists.{nth}
use Rattle.votes.specs.VoteSets.{empty, knows, wills, union, union_all}
use Rattle.votes.proofs.VoteLaws.{union-knows, union-wills}
use Rattle.votes.specs.Joining.{contradicts, join, join_all, agreed_or}
use Rattle.votes.proofs.JoinLaws.{agree_at, at_agree, join-agreed, all_fact, all-agreed}
use Rattle.votes.specs.declared.VoteSet.{VoteSet}
use Rattle.votes.specs.Joining.{Joined}
use Rattle.std.specs.Prelude.{Ok}
use Rattle.protocol.specs.declared.Acks.{Acks}

module _ (w : ℕ → Bool) where
  -- a vote set that has each controller it knows as w has it
  pub record Tells (s : VoteSet) : Type 0 where
    pub within : (k : ℕ) → wills s k ≡ true → knows s k ≡ true
    pub word : (k : ℕ) → knows s k ≡ true → wills s k ≡ w k

  pub empty-tells : Tells empty
  empty-tells = record { within = λ k e. none_has k e; word = λ k e. none_has k e }

  pub union-tells : (s t : VoteSet) → Tells s → Tells t → Tells (union s t)
  union-tells s t p q = record {
    within = λ k e. union-knows s t k ∙ elim (either-wills k e) [ inl y ↦ or_l (knows s k) (knows t k) (p.within k y) | inr y ↦ or_r (knows s k) (knows t k) (q.within k y) ];
    word = λ k e. same_test (wills (union s t) k) (w k)
        (λ h. elim (either-wills k h) [ inl y ↦ sym (p.word k (p.within k y)) ∙ y | inr y ↦ sym (q.word k (q.within k y)) ∙ y ])
        (λ h. union-wills s t k ∙ elim (or-e (knows s k) (knows t k) (sym (union-knows s t k) ∙ e)) [
          | inl y ↦ or_l (wills s k) (wills t k) (p.word k y ∙ h)
          | inr y ↦ or_r (wills s k) (wills t k) (q.word k y ∙ h)
        ]);
  }
    where
      either-wills : (k : ℕ) → wills (union s t) k ≡ true → (wills s k ≡ true) ⊎ (wills t k ≡ true)
      either-wills k e = or-e (wills s k) (wills t k) (sym (union-wills s t k) ∙ e)

  pub tell_agree : (s t : VoteSet) → Tells s → Tells t → contradicts s t ≡ false
  tell_agree s t p q = at_agree s t (λ k x y. p.word k x ∙ sym (q.word k y))

  -- so their join is there, and is the union
  pub told-join : (s t : VoteSet) → Tells s → Tells t → join s t ≡ Ok (union s t)
  told-join s t p q = join-agreed s t (tell_agree s t p q)

  pub told_or : (other s t : VoteSet) → Tells s → Tells t → agreed_or other (join s t) ≡ union s t
  told_or other s t p q = ap (λ (j : Joined). agreed_or other j) (told-join s t p q)

  pub or-tells : (other s t : VoteSet) → Tells s → Tells t → Tells (agreed_or other (join s t))
  or-tells other s t p q = subst Tells (sym (told_or other s t p q)) (union-tells s t p q)

  pub all_tell : (m from : ℕ) (l : List VoteSet) → ((j : ℕ) → has from j ≡ true → Tells (nth empty l j)) → Tells (union_all m from l)
  all_tell = all_fact Tells empty-tells union-tells tell_agree

  pub all_told : (m from : ℕ) (l : List VoteSet) → ((j : ℕ) → has from j ≡ true → Tells (nth empty l j)) → join_all m from l ≡ Ok (union_all m from l)
  all_told = all-agreed Tells empty-tells union-tells tell_agree

-- what is held: the own vote set, the join of the help answers, the acknowledgements
pub record Holds (w : ℕ → Bool) (own answers : VoteSet) (a : Acks) : Type 0 where
  pub own-tells : Tells w own
  pub answers_tell : Tells w answers
  pub acks_tell : (j : ℕ) → has a.from j ≡ true → Tells w (nth empty a.sets j)

pub record Extended (own answers : VoteSet) (a : Acks) (s : VoteSet) : Type 0 where
  pub word : ℕ → Bool
  pub held : Holds word own answers a
  pub new : Tells word s

-- one vote set more, that contradicts none held: of those whom nobody knew yet it gives the word
module _ (n : ℕ) (w : ℕ → Bool) (own answers : VoteSet) (a : Acks) (h : Holds w own answers a) (place : (j : ℕ) → has a.from j ≡ true → (1 ≤ j) × (j ≤ n))
    (s : VoteSet) (formed : (k : ℕ) → wills s k ≡ true → knows s k ≡ true) (with-own : contradicts own s ≡ false) (with-answers : contradicts answers s ≡ false)
    (with-acks : (j : ℕ) → has a.from j ≡ true → contradicts (nth empty a.sets j) s ≡ false) where
  abbrev in_ack : ℕ → ℕ → Bool
  in_ack k j = has a.from j && knows (nth empty a.sets j) k

  abbrev some_knows : ℕ → Bool
  some_knows k = knows own k || knows answers k || any_to n (in_ack k)

  abbrev new_word : ℕ → Bool
  new_word k = cond (some_knows k) (w k) (wills s k)

  still : (t : VoteSet) → Tells w t → ((k : ℕ) → knows t k ≡ true → some_knows k ≡ true) → Tells new_word t
  still t p q = record { within = p.within; word = λ k e. p.word k e ∙ sym (old k (q k e)) }
    where
      old : (k : ℕ) → some_knows k ≡ true → new_word k ≡ w k
      old k e = rw e

  alike : (k : ℕ) → some_knows k ≡ true → knows s k ≡ true → wills s k ≡ w k
  alike k e x = elim (or-e (knows own k || knows answers k) (any_to n (in_ack k)) e) [
    | inl q ↦ elim (or-e (knows own k) (knows answers k) q) [
      | inl y ↦ sym (agree_at own s with-own k y x) ∙ h.own-tells.word k y
      | inr y ↦ sym (agree_at answers s with-answers k y x) ∙ h.answers_tell.word k y
    ]
    | inr q ↦ from-ack (any_at n (in_ack k) q)
  ]
    where
      from-ack : Found n (in_ack k) → wills s k ≡ w k
      from-ack r =
          let y : has a.from r.at ≡ true = and_l (has a.from r.at) _ r.holds in
          let z : knows (nth empty a.sets r.at) k ≡ true = and_r (has a.from r.at) _ r.holds in
          sym (agree_at (nth empty a.sets r.at) s (with-acks r.at y) k z x) ∙ (h.acks_tell r.at y).word k z

  pub extended : Extended own answers a s
  extended = record {
    word = new_word;
    held = record {
      own-tells = still own h.own-tells (λ k e. or_l (knows own k || knows answers k) _ (or_l (knows own k) _ e));
      answers_tell = still answers h.answers_tell (λ k e. or_l (knows own k || knows answers k) _ (or_r (knows own k) _ e));
      acks_tell = λ j e. still (nth empty a.sets j) (h.acks_tell j e) (λ k x. or_r (knows own k || knows answers k) _ (any_of n (in_ack k) j (place j e).0 (place j e).1 (and_i (has a.from j) _ e x)));
    };
    new = record { within = formed; word = λ k x. said k x };
  }
    where
      said : (k : ℕ) → knows s k ≡ true → wills s k ≡ new_word k
      said k x = elim (split (some_knows k)) [ inl e ↦ rw e (alike k e x) | inr e ↦ rw e ]
