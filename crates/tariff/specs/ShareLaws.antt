-- What is worked out is the smallest number of pence that is at least the exact share; and the two shares make up the charge.
use Prim.Native.Nat.{ℕ, suc, ◌+◌, ◌*◌, ◌-◌, ◌≤◌}
use Rattle.std.specs.Prelude.{◌≡◌}
use Rattle.std.proofs.Math.Nat.{lt-div-mul-add, suc-mul}
use Rattle.std.proofs.Common.{div-lt_iff_lt-mul, arith}
use Rattle.tariff.specs.Shares.{SmallestAtLeast, rounded_up, half_up, upper_share, lower_share}

module _ (num den amount : ℕ) (d : 1 ≤ den) where
  rounded-up : SmallestAtLeast num den amount (rounded_up num den amount)
  unfolding rounded_up
  rounded-up = record { enough = omega (arith, lt-div-mul-add {a = num * amount + (den - 1)} {b = den} d); smallest = λ p h. omega (arith, (div-lt_iff_lt-mul {k = den} {x = num * amount + (den - 1)} {y = suc p} d).1 (rw suc-mul (omega arith))) }

-- what equals the worked out number is the smallest
pub is-smallest : {num den amount pence : ℕ} → 1 ≤ den → pence ≡ rounded_up num den amount → SmallestAtLeast num den amount pence
is-smallest {num} {den} {amount} {pence} d e = rw e (rounded-up num den amount d)

-- no share is above the amount
pub half-most : (c : ℕ) → half_up c ≤ c
unfolding rounded_up
half-most c = omega arith

pub upper-most : (c : ℕ) → upper_share c ≤ c
unfolding rounded_up
upper-most c = omega arith

pub make-up : (c : ℕ) → upper_share c + lower_share c ≡ c
make-up c = omega (arith, upper-most c)
