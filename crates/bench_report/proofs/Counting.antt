-- The digits of the number ten higher.
use Prim.Native.Nat.{ℕ, ◌+◌, ◌/◌, ◌%◌, ◌≤◌, ◌<◌}
use mathlib.Core.Path.{◌≡◌, ap}
use native.Mathlib.Omega.{arith}
use Rattle.bench_report.specs.Digits.{digits_of}
use Rattle.bench_report.specs.declared.Digits.{Digits}

carry : (i : ℕ) → i % 10 < 9 → ((i + 1) % 10 ≡ i % 10 + 1) × ((i + 1) / 10 ≡ i / 10)
carry i h = (omega arith, omega arith)

turn : (i : ℕ) → 9 ≤ i % 10 → ((i + 1) % 10 ≡ 0) × ((i + 1) / 10 ≡ i / 10 + 1)
turn i h = (omega arith, omega arith)

ten-on : (i : ℕ) → ((i + 10) % 10 ≡ i % 10) × ((i + 10) / 10 ≡ i / 10 + 1)
ten-on i = (omega arith, omega arith)

module _ (d : Digits) (i : ℕ) (e : d ≡ digits_of i) where
  pub of_ones : d.ones ≡ 48 + i % 10
  of_ones = ap (λ (x : Digits). x.ones) e

  pub of_tens : d.tens ≡ 48 + i / 10 % 10
  of_tens = ap (λ (x : Digits). x.tens) e

  pub of_hundreds : d.hundreds ≡ 48 + i / 10 / 10 % 10
  of_hundreds = ap (λ (x : Digits). x.hundreds) e

  pub of_thousands : d.thousands ≡ 48 + i / 10 / 10 / 10 % 10
  of_thousands = ap (λ (x : Digits). x.thousands) e

  pub next_tens : d.tens < 57 → ◌≡◌ {A = Digits} (record { thousands = d.thousands; hundreds = d.hundreds; tens = d.tens + 1; ones = d.ones }) (digits_of (i + 10))
  next_tens g =
      let a = ten-on i in
      let b = carry (i / 10) (omega (arith, of_tens)) in
      let x : d.tens + 1 ≡ 48 + (i / 10 % 10 + 1) = omega (arith, of_tens) in
      rw (a.0, a.1, b.0, b.1, x, of_ones, of_hundreds, of_thousands)

  module _ (g : 57 ≤ d.tens) where
    pub next_hundreds : d.hundreds < 57 → ◌≡◌ {A = Digits} (record { thousands = d.thousands; hundreds = d.hundreds + 1; tens = 48; ones = d.ones }) (digits_of (i + 10))
    next_hundreds k =
        let a = ten-on i in
        let b = turn (i / 10) (omega (arith, of_tens)) in
        let c = carry (i / 10 / 10) (omega (arith, of_hundreds)) in
        let x : d.hundreds + 1 ≡ 48 + (i / 10 / 10 % 10 + 1) = omega (arith, of_hundreds) in
        rw (a.0, a.1, b.0, b.1, c.0, c.1, x, of_ones, of_thousands)

    module _ (k : 57 ≤ d.hundreds) where
      pub next_thousands : d.thousands < 57 → ◌≡◌ {A = Digits} (record { thousands = d.thousands + 1; hundreds = 48; tens = 48; ones = d.ones }) (digits_of (i + 10))
      next_thousands l =
          let a = ten-on i in
          let b = turn (i / 10) (omega (arith, of_tens)) in
          let c = turn (i / 10 / 10) (omega (arith, of_hundreds)) in
          let f = carry (i / 10 / 10 / 10) (omega (arith, of_thousands)) in
          let x : d.thousands + 1 ≡ 48 + (i / 10 / 10 / 10 % 10 + 1) = omega (arith, of_thousands) in
          rw (a.0, a.1, b.0, b.1, c.0, c.1, f.0, x, of_ones)

      pub next-none : 57 ≤ d.thousands → ◌≡◌ {A = Digits} (record { thousands = 48; hundreds = 48; tens = 48; ones = d.ones }) (digits_of (i + 10))
      next-none l =
          let a = ten-on i in
          let b = turn (i / 10) (omega (arith, of_tens)) in
          let c = turn (i / 10 / 10) (omega (arith, of_hundreds)) in
          let f = turn (i / 10 / 10 / 10) (omega (arith, of_thousands)) in
          rw (a.0, a.1, b.0, b.1, c.0, c.1, f.0, of_ones)
