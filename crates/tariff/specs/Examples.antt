-- Charges and shares worked out by hand: the definitions give these. One table, one test.
use Rattle.std.specs.Prelude.{ℕ, ◌≡◌, refl, Bool, true, false, ◌&&◌, List, [], ◌∷◌, eqb}
use Rattle.model.specs.declared.Outcome.{Outcome}
use Rattle.model.specs.declared.Outcome.TheVariants.{None, Stay, Move}
use Rattle.tariff.specs.Tariff.{full_charge}
use Rattle.tariff.specs.Shares.{rounded_up}
use Rattle.tariff.specs.Charges.{charge, shared}

-- a lockage, and what each owner gets of it
pub record Example : Type 0 where
  pub length : ℕ
  pub outcome : Outcome
  pub returned : Bool
  pub upper : ℕ
  pub lower : ℕ

abbrev pub example : ℕ → Outcome → Bool → ℕ → ℕ → Example
example x o b u l = record { length = x; outcome = o; returned = b; upper = u; lower = l }

abbrev pub examples : List Example
examples =
    -- each band at its limit and just above it: 310, 460, 690, 943, 1231, 1587
    example 1 Move false 186 124
    ∷ example 500 Move false 186 124
    ∷ example 501 Move false 276 184
    ∷ example 800 Move false 276 184
    ∷ example 801 Move false 414 276
    ∷ example 1200 Move false 414 276
    ∷ example 1201 Move false 566 377
    ∷ example 1600 Move false 566 377
    ∷ example 1601 Move false 739 492
    ∷ example 2000 Move false 739 492
    ∷ example 2001 Move false 953 634
    ∷ example 2500 Move false 953 634
    -- the halves: 155, 230, 345, 472, 616, 794
    ∷ example 500 Move true 93 62
    ∷ example 800 Move true 138 92
    ∷ example 1200 Move true 207 138
    ∷ example 1600 Move true 284 188
    ∷ example 2000 Move true 370 246
    ∷ example 2500 Move true 477 317
    -- lengths that no sheet is accepted with: 0 is in the first band, 2501 in none
    ∷ example 0 Move false 186 124
    ∷ example 2501 Move false 0 0
    -- Stay and none pay nothing
    ∷ example 500 Stay false 0 0
    ∷ example 2500 None true 0 0
    ∷ []

abbrev pub passes : Example → Bool
passes e =
    eqb (shared (charge e.length e.outcome e.returned)).upper e.upper
    && eqb (shared (charge e.length e.outcome e.returned)).lower e.lower

abbrev pub all_pass : List Example → Bool
all_pass [] = true
all_pass (e ∷ es) = passes e && all_pass es

pub examples_pass : all_pass examples ≡ true
unfolding shared charge full_charge rounded_up
examples_pass = refl
