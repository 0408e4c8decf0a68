-- A state is never 0 again: each of the three steps keeps numbers other than 0 so, since x and x shifted are different.
use Rattle.std.specs.Prelude.{ℕ, zero, suc, ◌+◌, ◌*◌, ◌/◌, ◌%◌, ◌^◌, ◌≤◌, ◌<◌, ◌≡◌, refl}
use Rattle.std.proofs.Common.{sym, ◌∙◌, ap, arith, mod-lt, mod-eq_of_lt, pow-suc, mul_comm, mul_assoc, add-one, pow_pos, shr-shr}
use Rattle.std.proofs.Math.Nat.{mod-one}
use Rattle.std.proofs.Math.Arith.{mod-mul}
use Rattle.std.proofs.lemmas.Nat.{shr_le, and_le_l, and_le_r, xor_lt}
use Rattle.std.specs.Int.Bits.{shifted_half, shifted_even, bit_and, bit_xor, xor_add_and}
use Rattle.xorshift.specs.Xorshift.{left_step, right_step, draw, drawn_on}
use Rattle.xorshift.specs.Claim.{Draws}

-- no bit differs only between equal numbers
xor_same : (a b : ℕ) → bit_xor a b ≡ 0 → a ≡ b
xor_same a b e =
    let s : bit_xor a b + bit_and a b * 2 ≡ a + b = xor_add_and a b in
    let l : bit_and a b ≤ a = and_le_l a b in
    let r : bit_and a b ≤ b = and_le_r a b in
    omega arith

not-zero : (x : ℕ) → (x ≡ 0 → ⊥) → 0 < x
not-zero zero h = absurd (h refl)
not-zero (suc x) h = omega arith

-- a number other than 0 is more than its half
shr_below : (k x : ℕ) → 0 < x → x / 2 ^ suc k < x
shr_below k x p =
    let e : x / 2 ^ suc k ≡ x / 2 ^ k / 2 = ap (λ (m : ℕ). x / 2 ^ m) (sym (add-one k)) ∙ sym (shr-shr x k 1) in
    let l : x / 2 ^ k ≤ x = shr_le x k in
    omega arith

-- a number whose low bits are those of its multiple by a power of 2 above 1 has only zeros there: the lowest bit is 0, then so is the next
shifted-zero : (w k x : ℕ) → x * 2 ^ suc k % 2 ^ w ≡ x % 2 ^ w → x % 2 ^ w ≡ 0
shifted-zero zero k x e = mod-one x
shifted-zero (suc w) k x e =
    let m : 0 < 2 ^ w = pow_pos w in
    let l : x * 2 ^ suc k % (2 ^ w * 2) ≡ x * 2 ^ suc k / 2 % 2 ^ w * 2 + x * 2 ^ suc k % 2 = mod-mul (x * 2 ^ suc k) m (omega arith) in
    let r : x % (2 ^ w * 2) ≡ x / 2 % 2 ^ w * 2 + x % 2 = mod-mul x m (omega arith) in
    let e' : x * 2 ^ suc k % (2 ^ w * 2) ≡ x % (2 ^ w * 2) = ap (λ (p : ℕ). x * 2 ^ suc k % p) (sym (pow-suc 2 w)) ∙ (e ∙ ap (λ (p : ℕ). x % p) (pow-suc 2 w)) in
    let h : x * 2 ^ suc k / 2 % 2 ^ w ≡ x * 2 ^ k % 2 ^ w = ap (λ (p : ℕ). p % 2 ^ w) (shifted_half x k) in
    let z : x * 2 ^ suc k % 2 ≡ 0 = shifted_even x k in
    let even : x % 2 ≡ 0 = omega arith in
    let twice : x ≡ x / 2 * 2 = omega arith in
    let back : x / 2 * 2 ^ suc k ≡ x * 2 ^ k =
    ap (λ (p : ℕ). x / 2 * p) (pow-suc 2 k ∙ mul_comm (2 ^ k) 2) ∙ (sym (mul_assoc (x / 2) 2 (2 ^ k)) ∙ ap (λ (p : ℕ). p * 2 ^ k) (sym twice)) in
    let low : x * 2 ^ k % 2 ^ w ≡ x / 2 % 2 ^ w = omega arith in
    let ih : x / 2 % 2 ^ w ≡ 0 = shifted-zero w k (x / 2) (ap (λ (p : ℕ). p % 2 ^ w) back ∙ low) in
    ap (λ (p : ℕ). x % p) (pow-suc 2 w) ∙ omega arith

-- the steps
left-kept : (k x : ℕ) → 0 < x → x < 2 ^ 32 → (0 < left_step (suc k) x) × (left_step (suc k) x < 2 ^ 32)
left-kept k x p h =
    let s : ℕ = x * 2 ^ suc k % 2 ^ 32 in
    let m : s < 2 ^ 32 = mod-lt (x * 2 ^ suc k) (pow_pos 32) in
    let x% : x % 2 ^ 32 ≡ x = mod-eq_of_lt h in (
      not-zero (bit_xor x s) (λ z. let f : x % 2 ^ 32 ≡ 0 = shifted-zero 32 k x (sym (xor_same x s z) ∙ sym x%) in omega arith),
      xor_lt 32 x s h m,
    )

right_kept : (k x : ℕ) → 0 < x → x < 2 ^ 32 → (0 < right_step (suc k) x) × (right_step (suc k) x < 2 ^ 32)
right_kept k x p h =
    let s : ℕ = x / 2 ^ suc k in
    let l : s ≤ x = shr_le x (suc k) in
    let d : s < x = shr_below k x p in (
      not-zero (bit_xor x s) (λ z. let e : x ≡ s = xor_same x s z in omega arith),
      xor_lt 32 x s h (omega arith),
    )

draw-kept : (x : ℕ) → 0 < x → x < 2 ^ 32 → (0 < draw x) × (draw x < 2 ^ 32)
unfolding draw
draw-kept x p h =
    let a : (0 < left_step 13 x) × (left_step 13 x < 2 ^ 32) = left-kept 12 x p h in
    let b : (0 < right_step 17 (left_step 13 x)) × (right_step 17 (left_step 13 x) < 2 ^ 32) = right_kept 16 (left_step 13 x) a.0 a.1 in
    left-kept 4 (right_step 17 (left_step 13 x)) b.0 b.1

never-zero : (k x : ℕ) → 0 < x → x < 2 ^ 32 → (0 < drawn_on k x) × (drawn_on k x < 2 ^ 32)
never-zero zero x p h = (p, h)
never-zero (suc k) x p h = let d : (0 < draw x) × (draw x < 2 ^ 32) = draw-kept x p h in never-zero k (draw x) d.0 d.1

pub draws : Draws
unfolding draw
draws = record { never-zero = never-zero; first = refl; second = refl; third = refl; fourth = refl }
