-- Sheets worked out by hand: the definitions give these answers. One table, one test.
use Rattle.std.specs.Prelude.{ℕ, ◌/◌, ◌%◌, ◌≡◌, refl, Bool, true, ◌&&◌, List, [], ◌∷◌, ◌++◌, eqb}
use Rattle.model.specs.Questions.{first_no, unless}
use Rattle.records.specs.Codes.{outcome_of}
use Rattle.tariff.specs.Tariff.{full_charge}
use Rattle.tariff.specs.Shares.{rounded_up}
use Rattle.tariff.specs.Charges.{charge}
use Rattle.dues.specs.Sheet.{lockage_at, lockages_to, every, total, questions, totals, dues_for, number_of, values_of}

-- the bytes of a lockage: length, outcome, return
abbrev pub bytes : ℕ → ℕ → ℕ → List ℕ
bytes x outcome returned = x / 256 ∷ x % 256 ∷ outcome ∷ returned ∷ []

-- a sheet, and its answer's number and values
pub record Example : Type 0 where
  pub sheet : List ℕ
  pub number : ℕ
  pub upper : ℕ
  pub lower : ℕ

abbrev pub totalling : ℕ → ℕ → List ℕ → Example
totalling x y s = record { sheet = s; number = 0; upper = x; lower = y }

abbrev pub refused_with : ℕ → List ℕ → Example
refused_with q s = record { sheet = s; number = q; upper = 0; lower = 0 }

abbrev pub examples : List Example
examples =
    totalling 0 0 []
    -- a charge of 460 and a half of 943
    ∷ totalling 560 372 (bytes 800 2 0 ++ bytes 1600 2 1)
    -- Stay and none pay nothing
    ∷ totalling 0 0 (bytes 500 1 0 ++ bytes 2500 0 1)
    -- rounded charge by charge: of the sum, 3174, three fifths would be 1905
    ∷ totalling 1906 1268 (bytes 2500 2 0 ++ bytes 2500 2 0)
    -- refusals, question by question over the whole sheet
    ∷ refused_with 1 (bytes 0 3 0 ++ (1 ∷ []))
    ∷ refused_with 3 (bytes 0 2 0 ++ bytes 500 3 0)
    ∷ refused_with 3 (bytes 2501 2 0 ++ bytes 500 2 2)
    ∷ refused_with 22 (bytes 0 2 0)
    ∷ refused_with 22 (bytes 500 2 0 ++ bytes 2501 2 0)
    ∷ refused_with 22 (bytes 0 1 0)
    ∷ []

abbrev pub passes : Example → Bool
passes e =
    eqb (number_of (dues_for e.sheet)) e.number
    && eqb (values_of (dues_for e.sheet)).upper e.upper
    && eqb (values_of (dues_for e.sheet)).lower e.lower

abbrev pub all_pass : List Example → Bool
all_pass [] = true
all_pass (e ∷ es) = passes e && all_pass es

pub examples_pass : all_pass examples ≡ true
unfolding dues_for questions first_no unless totals total every lockages_to lockage_at outcome_of charge full_charge rounded_up
examples_pass = refl
