use borrow.Author.Tests.{le-leb, lt-leb}
use Rattle.model.specs.Ranges.{is_ballot}
use Rattle.model.proofs.ranges.is_ballot.Goals as goal

pub returns-then-b-ge1 : goal.returns-then-b-ge1
unfolding is_ballot
returns-then-b-ge1 c = simp (le-leb _ _ c.if-b-ge1.true)

pub returns-else-b-ge1 : goal.returns-else-b-ge1
unfolding is_ballot
returns-else-b-ge1 c = simp (lt-leb _ _ c.if-b-ge1.false)
