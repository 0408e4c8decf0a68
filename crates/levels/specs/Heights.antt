-- Levels as the code compares them: as heights above −100,000 mm, so that those of the range are 0 to 200,000 and none is negative.
use Rattle.std.specs.Prelude.{◌≡◌, ℕ, ◌+◌, ◌≤◌, Bool, cond, ◌&&◌, ◌||◌, leb, nat_le, nat_lt}
use Rattle.std.proofs.Math.IntN.{sub_ℕ}
use Rattle.model.specs.Positions.{millimetres}
use Rattle.levels.specs.declared.Range.{Range}
use Rattle.levels.specs.declared.heights.Heights.{Heights}
use Rattle.levels.specs.declared.Willingness.{Willingness}
use Rattle.levels.specs.declared.Willingness.TheVariants.{Willing, CertainlyUnwilling, Unsure}
use Rattle.levels.specs.Judged.{is_level}

-- the height of a level: it tells whether the level is in range, and if it is, the level is that height − 100,000
pub record Raised (level height : ℕ) : Type 0 where
  pub tells : leb height 200000 ≡ is_level (millimetres level)
  pub place : height ≤ 200000 → millimetres level ≡ sub_ℕ height 100000

pub record RaisedRange (r : Range) (h : Heights) : Type 0 where
  pub low : Raised r.low h.low
  pub high : Raised r.high h.high

abbrev pub both_listed : Heights → Bool
both_listed h = nat_le h.low 200000 && nat_le h.high 200000

pub record Listed (h : Heights) : Type 0 where
  pub low : h.low ≤ 200000
  pub high : h.high ≤ 200000

-- `by_heads` in heights: a head below −150, and one above 150
abbrev pub under : ℕ → ℕ → Bool
under above below = nat_lt (above + 150) below

abbrev pub over : ℕ → ℕ → Bool
over above below = nat_lt (below + 150) above

unfoldable pub by_heights : Heights → Heights → Willingness
by_heights above below = cond (under above.high below.low || over above.low below.high) CertainlyUnwilling (cond (under above.low below.high || over above.high below.low) Unsure Willing)
