use borrow.Author.Tests.{le-leb, lt-leb}
use Rattle.model.specs.Ranges.{position_in_range}
use Rattle.model.proofs.ranges.position_in_range.Goals as goal

pub returns-then-p-le20000 : goal.returns-then-p-le20000
unfolding position_in_range
returns-then-p-le20000 c = simp (le-leb _ _ c.if-p-le20000.true)

pub returns-else-p-le20000 : goal.returns-else-p-le20000
unfolding position_in_range
returns-else-p-le20000 c = simp (lt-leb _ _ c.if-p-le20000.false)
