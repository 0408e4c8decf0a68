-- Numbers of few digits, digit by digit.
use Prim.Native.Nat.{ℕ, ◌+◌, ◌*◌, ◌/◌, ◌%◌, ◌≤◌, ◌<◌}
use mathlib.Core.List.{[], ◌∷◌}
use mathlib.Core.Path.{◌≡◌}
use native.Mathlib.Omega.{arith}
use borrow.Author.Tests.{lt-ltb, le-ltb}
use Rattle.text.specs.Text.{digit, digits, decimal}
use Rattle.bench_report.specs.declared.Digits.{Digits}
use Rattle.bench_report.specs.Digits.{digits_of}
use Rattle.bench_report.proofs.Counting.{of_ones, of_tens, of_hundreds, of_thousands}

pub one : (v : ℕ) → v < 10 → digit v ∷ [] ≡ decimal v
unfolding decimal digits
one v h = rw (lt-ltb v 10 h)

-- the number of so many tens and ones, from the digits of the decade's first
module _ (t k : ℕ) (h : k < 10) (d : Digits) (e : d ≡ digits_of (t * 10)) where
  tens : (t * 10 + k) / 10 ≡ t
  tens = omega arith

  ones : (t * 10 + k) % 10 ≡ k
  ones = omega arith

  of_none : (t * 10) / 10 ≡ t
  of_none = omega arith

  last : d.ones + k ≡ 48 + k
  last = omega (arith, of_ones d (t * 10) e)

  thousands : d.thousands ≡ 48 + t / 10 / 10 % 10
  thousands = rw of_none at (of_thousands d (t * 10) e)

  hundreds : d.hundreds ≡ 48 + t / 10 % 10
  hundreds = rw of_none at (of_hundreds d (t * 10) e)

  decade : d.tens ≡ 48 + t % 10
  decade = rw of_none at (of_tens d (t * 10) e)

  pub one-digit : t < 1 → (d.ones + k) ∷ [] ≡ decimal (t * 10 + k)
  one-digit g = let z : t * 10 + k ≡ k = omega arith in rw (last, z) (one k h)

  pub two_digits : 1 ≤ t → t < 10 → d.tens ∷ (d.ones + k) ∷ [] ≡ decimal (t * 10 + k)
  unfolding decimal digits
  two_digits g l = let z : t % 10 ≡ t = omega arith in rw (last, decade, le-ltb (t * 10 + k) 10 (omega arith), tens, ones, lt-ltb t 10 l, z)

  pub three-digits : 10 ≤ t → t < 100 → d.hundreds ∷ d.tens ∷ (d.ones + k) ∷ [] ≡ decimal (t * 10 + k)
  unfolding decimal digits
  three-digits g l =
      let z : t / 10 % 10 ≡ t / 10 = omega arith in
      rw (last, decade, hundreds, le-ltb (t * 10 + k) 10 (omega arith), tens, ones, le-ltb t 10 g, lt-ltb (t / 10) 10 (omega arith), z)

  pub four-digits : 100 ≤ t → t < 1000 → d.thousands ∷ d.hundreds ∷ d.tens ∷ (d.ones + k) ∷ [] ≡ decimal (t * 10 + k)
  unfolding decimal digits
  four-digits g l =
      let z : t / 10 / 10 % 10 ≡ t / 10 / 10 = omega arith in
      rw (last, decade, hundreds, thousands, le-ltb (t * 10 + k) 10 (omega arith), tens, ones, le-ltb t 10 (omega arith), le-ltb (t / 10) 10 (omega arith), lt-ltb (t / 10 / 10) 10 (omega arith), z)
