use borrow.Author.Tests.{le-leb, lt-leb}
use native.Mathlib.Omega.{arith}
use Rattle.ground.specs.Limit.{limit}
use Rattle.model.specs.Ranges.{sizes_in_range}
use Rattle.model.proofs.ranges.sizes_in_range.Goals as goal

pub returns-then-n-lt2 : goal.returns-then-n-lt2
unfolding sizes_in_range
returns-then-n-lt2 c = simp (lt-leb _ _ c.if-n-lt2.true)

pub returns-then-from-gt-LIMIT : goal.returns-then-from-gt-LIMIT
unfolding sizes_in_range
returns-then-from-gt-LIMIT c = simp (le-leb _ _ c.if-n-lt2.false, lt-leb c.args.n limit (omega (arith, c.from.ensures, c.if-from-gt-LIMIT.true)))

pub returns-then-f-ge1 : goal.returns-then-f-ge1
unfolding sizes_in_range
returns-then-f-ge1 c = simp (le-leb _ _ c.if-n-lt2.false, le-leb c.args.n limit (omega (arith, c.from.ensures, c.if-from-gt-LIMIT.false)), le-leb _ _ c.if-f-ge1.true)

pub returns-else-f-ge1 : goal.returns-else-f-ge1
unfolding sizes_in_range
returns-else-f-ge1 c = simp (le-leb _ _ c.if-n-lt2.false, le-leb c.args.n limit (omega (arith, c.from.ensures, c.if-from-gt-LIMIT.false)), lt-leb _ _ c.if-f-ge1.false)
