-- What the code computes with shifts and masks, said by the definitions.
use Prim.Native.Nat.{ℕ, ◌*◌, ◌^◌, ◌%◌, ◌-◌, ◌≤◌, ◌<◌}
use mathlib.Core.Path.{◌≡◌, sym, ◌∙◌, ap}
use native.Mathlib.Omega.{arith}
use native.Mathlib.Nat.{mod-eq_of_lt, lt_of_lt_of_le}
use lib.Pow.{pow_mono, shl_exact}
use lib.Dec.{eqb, lit<}
use lib.Bits.{bit_and, bit_or, and_mask}
use lib.Count.{ones}
use Rattle.ground.specs.Mask.{width, has, insert, full_to}
use Rattle.ground.proofs.MaskLaws.{insert-at}
use Rattle.ground.specs.Quantify.{count_to}
use Rattle.ground.proofs.Sizes.{size_ones}

-- 1 shifted left, in w bits
pub shifted : (w n : ℕ) → n < w → 1 * 2 ^ n % 2 ^ w ≡ 2 ^ n
shifted w n h = omega (arith, shl_exact 1 n w (lit< {m = 1} {n = 2} tt) (omega arith))

pub inserted : (m k : ℕ) → 1 ≤ k → k ≤ width → bit_or m (1 * 2 ^ (k - 1) % 2 ^ width) ≡ insert m k
inserted m k a b = ap (bit_or m) (shifted width (k - 1) (omega arith)) ∙ sym (insert-at m k a b)

pub filled : (m n p : ℕ) → p ≡ 2 ^ n → eqb (bit_and m (p - 1)) (p - 1) ≡ full_to n m
unfolding full_to
filled m n p e = rw e (ap (λ (x : ℕ). eqb x (2 ^ n - 1)) (and_mask m n))

-- the ones of a number below 2 ^ n, and of the lowest n bits of any
pub counted-all : (m n : ℕ) → m < 2 ^ width → width ≤ n → ones m ≡ count_to n (has m)
counted-all m n h l = sym (size_ones n m ∙ ap ones (mod-eq_of_lt (lt_of_lt_of_le h (pow_mono {i = width} {j = n} l))))

pub counted : (m n p : ℕ) → p ≡ 2 ^ n → ones (bit_and m (p - 1)) ≡ count_to n (has m)
counted m n p e = rw e (ap ones (and_mask m n) ∙ sym (size_ones n m))
