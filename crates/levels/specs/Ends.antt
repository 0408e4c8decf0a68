-- The answer from the ends of the ranges alone. That it is the right one is `ends-decide`.
use Rattle.std.specs.Prelude.{ℕ, Result, Ok, Err, cond, ◌||◌, ℤ, int_lt}
use Rattle.model.specs.Questions.{Reply, accepted, refused, first_no}
use Rattle.levels.specs.declared.Range.{Range}
use Rattle.levels.specs.declared.Willingness.{Willingness}
use Rattle.levels.specs.declared.Willingness.TheVariants.{Willing, CertainlyUnwilling, Unsure}
use Rattle.levels.specs.Heads.{low, high, head, mm, minus}
use Rattle.levels.specs.Judged.{questions}

-- the least and the greatest head of a pair
abbrev pub least : Range → Range → ℤ
least above below = head (low above) (high below)

abbrev pub greatest : Range → Range → ℤ
greatest above below = head (high above) (low below)

unfoldable pub by_heads : ℤ → ℤ → Willingness
by_heads l g = cond (int_lt g (minus 150) || int_lt (mm 150) l) CertainlyUnwilling (cond (int_lt l (minus 150) || int_lt (mm 150) g) Unsure Willing)

abbrev pub after : Reply → Willingness → Result Willingness ℕ
after accepted w = Ok w
after (refused q) w = Err q

unfoldable pub willingness : Range → Range → Result Willingness ℕ
willingness above below = after (first_no (questions above below)) (by_heads (least above below) (greatest above below))
