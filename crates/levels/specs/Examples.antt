-- Each answer is met: a table of ranges in mm and what they are answered.
use Rattle.std.specs.Prelude.{ℕ, Result, Ok, Err, ◌-◌, ◌^◌, List, [], ◌∷◌, ℤ, pos, negsuc}
use Rattle.levels.specs.declared.Range.{Range}
use Rattle.levels.specs.declared.Willingness.{Willingness}
use Rattle.levels.specs.declared.Willingness.TheVariants.{Willing, CertainlyUnwilling, Unsure}
use Rattle.levels.specs.Heads.{mm, minus}
use Rattle.levels.specs.Judged.{Judged}

-- a level in two's complement, and a range
abbrev pub encoded : ℤ → ℕ
encoded (pos n) = n
encoded (negsuc n) = 2 ^ 32 - 1 - n

infix 30 ◌to◌
abbrev pub ◌to◌ : ℤ → ℤ → Range
l to h = record { low = encoded l; high = encoded h }

pub record Example : Type 0 where
  pub above : Range
  pub below : Range
  pub answer : Result Willingness ℕ

abbrev pub row : Range → Range → Result Willingness ℕ → Example
row above below answer = record { above = above; below = below; answer = answer }

abbrev pub examples : List Example
examples = row (mm 1200 to mm 1250) (mm 1190 to mm 1210) (Ok Willing)
    -- ranges of one point, with a head of −150 and of 151
    ∷ row (mm 0 to mm 0) (mm 150 to mm 150) (Ok Willing)
    ∷ row (mm 0 to mm 0) (minus 151 to minus 151) (Ok CertainlyUnwilling)
    ∷ row (minus 300 to minus 200) (mm 0 to mm 40) (Ok CertainlyUnwilling)
    -- heads of 150 and 151
    ∷ row (mm 0 to mm 1) (minus 150 to minus 150) (Ok Unsure)
    ∷ row (minus 100000 to mm 100000) (mm 0 to mm 0) (Ok Unsure)
    -- no head from −150 to 150 at either end, and one between
    ∷ row (minus 200 to mm 200) (mm 0 to mm 0) (Ok Unsure)
    ∷ row (mm 0 to mm 100001) (mm 0 to mm 0) (Err 20)
    -- a low above its high in the other range: 20 comes first
    ∷ row (mm 1 to mm 0) (minus 100001 to mm 0) (Err 20)
    ∷ row (mm 0 to mm 0) (mm 100000 to mm 99999) (Err 21)
    ∷ []

-- every row's answer is the right one
abbrev pub Right : List Example → Type 0
Right [] = Unit
Right (e ∷ es) = Judged e.above e.below e.answer × Right es
