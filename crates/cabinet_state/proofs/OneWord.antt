-- A check in which each step can be taken back: two runs of words with one check that differ in one place alone do not differ there.
use Prim.Native.Nat.{ℕ, zero, suc, ◌+◌, ◌*◌, ◌/◌, ◌%◌, ◌<◌}
use mathlib.Core.Path.{◌≡◌, refl, sym, ap, ◌∙◌}
use native.Mathlib.Omega.{arith}
use native.Mathlib.Decide.{dec_le, ℕ_discrete}
use Rattle.cabinet_state.specs.Words.{check_to}

-- the remainder is one
unique : (a b y z : ℕ) → a < 4294967296 → b < 4294967296 → a + 4294967296 * y ≡ b + 4294967296 * z → a ≡ b
unique a b y z p q e = elim (dec_le y z) [
  | yes u ↦ elim (dec_le z y) [
    | yes v ↦ let w : y ≡ z = omega (arith, u, v) in omega (arith, w, e)
    | no v ↦ absurd (omega (arith, u, v, p, q, e))
  ]
  | no u ↦ absurd (omega (arith, u, p, q, e))
]

-- 31 has an inverse in 32 bits: 31 · 3186588639 = 23 · 2^32 + 1
pub back : (a b w : ℕ) → a < 4294967296 → b < 4294967296 → (a * 31 + w) % 4294967296 ≡ (b * 31 + w) % 4294967296 → a ≡ b
back a b w p q e =
    let lin : a + 4294967296 * (3186588639 * ((b * 31 + w) / 4294967296) + 23 * a) ≡ b + 4294967296 * (3186588639 * ((a * 31 + w) / 4294967296) + 23 * b) = omega (arith, e) in
    unique a b _ _ p q lin

pub last-back : (a x y : ℕ) → x < 4294967296 → y < 4294967296 → (a * 31 + x) % 4294967296 ≡ (a * 31 + y) % 4294967296 → x ≡ y
last-back a x y p q e = omega (arith, p, q, e)

check_bound : (n : ℕ) (g : ℕ → ℕ) → check_to n g < 4294967296
unfolding check_to
check_bound zero g = omega arith
check_bound (suc n) g = omega arith

-- equal words give an equal check
pub same_check : (n : ℕ) (g h : ℕ → ℕ) → ((k : ℕ) → k < n → g k ≡ h k) → check_to n g ≡ check_to n h
unfolding check_to
same_check zero g h e = refl
same_check (suc n) g h e = rw (same_check n g h (λ k m. e k (omega arith)), e n (omega arith))

-- one place apart
pub one_apart : (n : ℕ) (g h : ℕ → ℕ) (j : ℕ) → j < n → g j < 4294967296 → h j < 4294967296 → ((k : ℕ) → (k ≡ j → ⊥) → g k ≡ h k) → check_to n g ≡ check_to n h → g j ≡ h j
unfolding check_to
one_apart zero g h j p u v e c = absurd (omega arith)
one_apart (suc n) g h j p u v e c = elim (ℕ_discrete j n) [
  | yes q ↦ let s : check_to n g ≡ check_to n h = same_check n g h (λ k m. e k (λ z. absurd (omega (arith, z, q, m)))) in
      let c' : (check_to n g * 31 + g n) % 4294967296 ≡ (check_to n g * 31 + h n) % 4294967296 = c ∙ ap (λ (x : ℕ). (x * 31 + h n) % 4294967296) (sym s) in
      rw q (last-back (check_to n g) (g n) (h n) (rw (sym q) u) (rw (sym q) v) c')
  | no q ↦ let s : g n ≡ h n = e n (λ z. q (sym z)) in
      let c' : (check_to n g * 31 + g n) % 4294967296 ≡ (check_to n h * 31 + g n) % 4294967296 = c ∙ ap (λ (x : ℕ). (check_to n h * 31 + x) % 4294967296) (sym s) in
      one_apart n g h j (omega arith) u v e (back (check_to n g) (check_to n h) (g n) (check_bound n g) (check_bound n h) c')
]
