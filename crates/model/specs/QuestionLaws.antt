-- Laws of questions: accepted is "yes" to each, and the number tells the reply.
use Rattle.std.specs.Prelude.{ℕ, zero, suc, ◌≡◌, refl, Bool, true, ◌&&◌, List, [], ◌∷◌, ◌++◌, ltb}
use Rattle.std.proofs.Common.{sym, ◌∙◌, ap, arith, inl, inr}
use Rattle.std.proofs.lemmas.Bool.{false≢true}
use Rattle.ground.specs.Tests.{split, and_l, and_r}
use Rattle.model.specs.Questions.{Reply, accepted, refused, number, is_accepted, Question, unless, first_no}

pub is-accepted : (r : Reply) → is_accepted r ≡ true → r ≡ accepted
is-accepted accepted e = refl
is-accepted (refused q) e = absurd (false≢true e)

-- each question is answered "yes"
abbrev pub AllYes : List Question → Type 0
AllYes [] = Unit
AllYes (q ∷ qs) = (q.yes ≡ true) × AllYes qs

never : {A : Type 0} (q : ℕ) → refused q ≡ accepted → A
never q e = let z : ◌≡◌ {A = ℕ} 0 1 = cc in absurd (omega arith)

pub all_yes : (qs : List Question) → first_no qs ≡ accepted → AllYes qs
unfolding first_no unless
all_yes [] e = tt
all_yes (q ∷ qs) e = elim (split q.yes) [
  | inl y ↦ (y, all_yes qs (rw y at e))
  | inr y ↦ never q.number (rw y at e)
]

pub yes-all : (qs : List Question) → AllYes qs → first_no qs ≡ accepted
unfolding first_no unless
yes-all [] a = refl
yes-all (q ∷ qs) a = rw a.0 (yes-all qs a.1)

-- questions after others: where those are all answered "yes" these give the reply, else the others do
pub first-accepted : (qs rs : List Question) → first_no qs ≡ accepted → first_no (qs ++ rs) ≡ first_no rs
unfolding first_no unless
first-accepted [] rs e = refl
first-accepted (q ∷ qs) rs e = let y = all_yes (q ∷ qs) e in rw y.0 (first-accepted qs rs (yes-all qs y.1))

pub first-refused : (qs rs : List Question) (k : ℕ) → first_no qs ≡ refused k → first_no (qs ++ rs) ≡ refused k
unfolding first_no unless
first-refused [] rs k e = never k (sym e)
first-refused (q ∷ qs) rs k e = elim (split q.yes) [
  | inl y ↦ rw y (first-refused qs rs k (rw y at e))
  | inr y ↦ rw y (rw y at e)
]

-- no question has the number 0, which means accepted
abbrev pub numbered : List Question → Bool
numbered [] = true
numbered (q ∷ qs) = ltb 0 q.number && numbered qs

not-zero : (q : ℕ) → ltb 0 q ≡ true → q ≡ 0 → ⊥
not-zero zero t e = let z : ◌≡◌ {A = ℕ} 0 1 = cc in omega arith
not-zero (suc q) t e = omega arith

zero-accepted : (qs : List Question) → numbered qs ≡ true → number (first_no qs) ≡ 0 → first_no qs ≡ accepted
unfolding first_no unless
zero-accepted [] n e = refl
zero-accepted (q ∷ qs) n e = elim (split q.yes) [
  | inl y ↦ rw y (zero-accepted qs (and_r (ltb 0 q.number) (numbered qs) n) (rw y at e))
  | inr y ↦ absurd (not-zero q.number (and_l (ltb 0 q.number) (numbered qs) n) (rw y at e))
]

other-refused : (r : Reply) → (number r ≡ 0 → ⊥) → r ≡ refused (number r)
other-refused accepted n = absurd (n refl)
other-refused (refused q) n = refl

-- the reply, from the number that code answered
pub reply-accepted : (qs : List Question) (q : ℕ) → numbered qs ≡ true → q ≡ number (first_no qs) → q ≡ 0 → first_no qs ≡ accepted
reply-accepted qs q n e z = zero-accepted qs n (sym e ∙ z)

pub reply-refused : (qs : List Question) (q : ℕ) → q ≡ number (first_no qs) → (q ≡ 0 → ⊥) → first_no qs ≡ refused q
reply-refused qs q e n = other-refused (first_no qs) (λ z. n (e ∙ z)) ∙ ap refused (sym e)
