-- "Every", "some" and "how many" of the controllers 1 to m, as tests and counts that compute.
use Rattle.std.specs.Prelude.{ℕ, zero, suc, ◌+◌, ◌≤◌, ◌<◌, ◌≡◌, refl, Bool, true, false, not, ◌&&◌, ◌||◌, cond}
use Rattle.std.proofs.Common.{true≢false, arith, inl, inr}
use Rattle.std.proofs.lemmas.Bool.{false≢true}
use Rattle.std.proofs.Math.Decide.{dec_le, ℕ_discrete}
use Rattle.ground.specs.Tests.{split, and_l, and_r, and_i, or-e, or_l, or_r}

-- every k of 1..m passes; some k of 1..m passes; how many do
unfoldable pub all_to : ℕ → (ℕ → Bool) → Bool
all_to zero p = true
all_to (suc m) p = p (suc m) && all_to m p

unfoldable pub any_to : ℕ → (ℕ → Bool) → Bool
any_to zero p = false
any_to (suc m) p = p (suc m) || any_to m p

unfoldable pub count_to : ℕ → (ℕ → Bool) → ℕ
count_to zero p = 0
count_to (suc m) p = cond (p (suc m)) 1 0 + count_to m p

pub all-at : (m : ℕ) (p : ℕ → Bool) → all_to m p ≡ true → (k : ℕ) → 1 ≤ k → k ≤ m → p k ≡ true
unfolding all_to
all-at zero p e k h h' = absurd (omega arith)
all-at (suc m) p e k h h' = elim (ℕ_discrete k (suc m)) [
  | yes q ↦ rw q (and_l (p (suc m)) (all_to m p) e)
  | no q ↦ all-at m p (and_r (p (suc m)) (all_to m p) e) k h (omega arith)
]

pub all_of : (m : ℕ) (p : ℕ → Bool) → ((k : ℕ) → 1 ≤ k → k ≤ m → p k ≡ true) → all_to m p ≡ true
unfolding all_to
all_of zero p h = refl
all_of (suc m) p h = and_i (p (suc m)) (all_to m p) (h (suc m) (omega arith) (omega arith)) (all_of m p (λ k a b. h k a (omega arith)))

pub any_of : (m : ℕ) (p : ℕ → Bool) (k : ℕ) → 1 ≤ k → k ≤ m → p k ≡ true → any_to m p ≡ true
unfolding any_to
any_of zero p k h h' e = absurd (omega arith)
any_of (suc m) p k h h' e = elim (ℕ_discrete k (suc m)) [
  | yes q ↦ or_l (p (suc m)) (any_to m p) (rw q at e)
  | no q ↦ or_r (p (suc m)) (any_to m p) (any_of m p k h (omega arith) e)
]

pub record Found (m : ℕ) (p : ℕ → Bool) : Type 0 where
  pub at : ℕ
  pub low : 1 ≤ at
  pub high : at ≤ m
  pub holds : p at ≡ true

pub any_at : (m : ℕ) (p : ℕ → Bool) → any_to m p ≡ true → Found m p
unfolding any_to
any_at zero p e = absurd (false≢true e)
any_at (suc m) p e = elim (or-e (p (suc m)) (any_to m p) e) [
  | inl q ↦ record { at = suc m; low = omega arith; high = omega arith; holds = q }
  | inr q ↦ let r : Found m p = any_at m p q in record { at = r.at; low = r.low; high = omega arith; holds = r.holds }
]

-- not every one: some fails
pub not-all : (m : ℕ) (p : ℕ → Bool) → all_to m p ≡ false → Found m (λ k. not (p k))
unfolding all_to
not-all zero p e = absurd (true≢false e)
not-all (suc m) p e = elim (split (p (suc m))) [
  | inl h ↦ let r : Found m (λ k. not (p k)) = not-all m p (rw h at e) in record { at = r.at; low = r.low; high = omega arith; holds = r.holds }
  | inr h ↦ record { at = suc m; low = omega arith; high = omega arith; holds = rw h }
]

-- a set within f+1..m of at least m − f members has them all
pub count_le : (m : ℕ) (p : ℕ → Bool) → count_to m p ≤ m
unfolding count_to
count_le zero p = omega arith
count_le (suc m) p = let h : count_to m p ≤ m = count_le m p in elim (split (p (suc m))) [
  | inl e ↦ rw e (omega arith)
  | inr e ↦ rw e (omega arith)
]

count_low : (m f : ℕ) (p : ℕ → Bool) → ((k : ℕ) → p k ≡ true → f < k) → m ≤ f → count_to m p ≡ 0
unfolding count_to
count_low zero f p h l = refl
count_low (suc m) f p h l = let z : count_to m p ≡ 0 = count_low m f p h (omega arith) in elim (split (p (suc m))) [
  | inl e ↦ absurd (omega (arith, h (suc m) e))
  | inr e ↦ rw e (omega arith)
]

-- at most m - f members
count-high : (m f : ℕ) (p : ℕ → Bool) → ((k : ℕ) → p k ≡ true → f < k) → f ≤ m → count_to m p + f ≤ m
unfolding count_to
count-high zero f p h l = omega arith
count-high (suc m) f p h l = elim (dec_le f m) [
  | yes l' ↦ let z : count_to m p + f ≤ m = count-high m f p h l' in elim (split (p (suc m))) [
    | inl e ↦ rw e (omega arith)
    | inr e ↦ rw e (omega arith)
  ]
  | no l' ↦ let z : count_to m p ≡ 0 = count_low m (suc m) p (λ k e. let q : f < k = h k e in omega arith) (omega arith) in elim (split (p (suc m))) [
    | inl e ↦ absurd (omega (arith, h (suc m) e))
    | inr e ↦ rw e (omega arith)
  ]
]

pub count-all : (m f : ℕ) (p : ℕ → Bool) → ((k : ℕ) → p k ≡ true → f < k) → m ≤ count_to m p + f → (k : ℕ) → f < k → k ≤ m → p k ≡ true
unfolding count_to
count-all zero f p h c k a b = absurd (omega arith)
count-all (suc m) f p h c k a b = elim (dec_le f m) [
  | no l ↦ absurd (omega arith)
  | yes l ↦ let z : count_to m p + f ≤ m = count-high m f p h l in elim (split (p (suc m))) [
    | inl e ↦ (elim (ℕ_discrete k (suc m)) [
      | yes q ↦ rw q e
      | no q ↦ let c' : suc m ≤ 1 + count_to m p + f = (rw e at c) in count-all m f p h (omega arith) k a (omega arith)
    ])
    | inr e ↦ let c' : suc m ≤ 0 + count_to m p + f = (rw e at c) in absurd (omega arith)
  ]
]
