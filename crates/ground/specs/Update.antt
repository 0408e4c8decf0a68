-- A function of the controller's number, changed at one place.
use Rattle.std.specs.Prelude.{ℕ, ◌≡◌, false, cond, eqb}
use Rattle.std.proofs.Common.{inl, inr, eqb-true}
use Rattle.ground.specs.Tests.{split, eqb_same}

-- the function g with a at place i
unfoldable pub upd : {A : Type 0} → (ℕ → A) → ℕ → A → ℕ → A
upd f i a j = cond (eqb j i) a (f j)

pub upd_same : {A : Type 0} (f : ℕ → A) (i : ℕ) (a : A) → upd f i a i ≡ a
unfolding upd
upd_same f i a = rw (eqb_same i)

pub upd_other : {A : Type 0} (f : ℕ → A) (i : ℕ) (a : A) (j : ℕ) → eqb j i ≡ false → upd f i a j ≡ f j
unfolding upd
upd_other f i a j e = rw e

-- a family over all places holds after a change if it holds at the changed place, and did before
pub upd-all : {A : Type 0} (P : ℕ → A → Type 0) (f : ℕ → A) (i : ℕ) (a : A) → P i a → ((k : ℕ) → P k (f k)) → (k : ℕ) → P k (upd f i a k)
upd-all P f i a here there k = elim (split (eqb k i)) [
  | inl e ↦ rw (eqb-true k i e, upd_same f i a) here
  | inr e ↦ rw (upd_other f i a k e) (there k)
]

-- functions that agree everywhere are equal
pub fun_ext : {A : Type 0} (f g : ℕ → A) → ((k : ℕ) → f k ≡ g k) → f ≡ g
fun_ext f g h = λ i k. h k i
