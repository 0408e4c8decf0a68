use borrow.Author.Tests.{le-leb, lt-leb}
use Rattle.model.specs.Ranges.{is_controller}
use Rattle.model.proofs.ranges.is_controller.Goals as goal

pub returns-then-k-ge1 : goal.returns-then-k-ge1
unfolding is_controller
returns-then-k-ge1 c = simp (le-leb _ _ c.if-k-ge1.true)

pub returns-else-k-ge1 : goal.returns-else-k-ge1
unfolding is_controller
returns-else-k-ge1 c = simp (lt-leb _ _ c.if-k-ge1.false)
