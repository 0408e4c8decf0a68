-- Document 02, U1: levels, ranges and heads, in mm.
use Rattle.std.specs.Prelude.{ℕ, ℤ, pos, ◌-ℤ◌, neg_ℤ, ◌≤ℤ◌}
use Rattle.model.specs.Positions.{millimetres}
use Rattle.levels.specs.declared.Range.{Range}

-- "a gauge gives a low and a high level in mm, not a point"
abbrev pub low : Range → ℤ
low r = millimetres r.low

abbrev pub high : Range → ℤ
high r = millimetres r.high

-- a level within a range, its ends included: "A range of one point is allowed"
abbrev pub Within : Range → ℤ → Type 0
Within r level = (low r ≤ℤ level) × (level ≤ℤ high r)

-- "Head is level above minus level below, and may be negative."
abbrev pub head : ℤ → ℤ → ℤ
head above below = above -ℤ below

abbrev pub mm : ℕ → ℤ
mm n = pos n

abbrev pub minus : ℕ → ℤ
minus n = neg_ℤ (pos n)

-- "a head from −150 to 150"
abbrev pub Slight : ℤ → Type 0
Slight h = (minus 150 ≤ℤ h) × (h ≤ℤ mm 150)

-- "every pair of levels within the two ranges has a head from −150 to 150"
unfoldable pub EveryPair : Range → Range → Type 0
EveryPair above below = (a b : ℤ) → Within above a → Within below b → Slight (head a b)

-- "no pair has"
unfoldable pub NoPair : Range → Range → Type 0
NoPair above below = (a b : ℤ) → Within above a → Within below b → Slight (head a b) → ⊥
