use borrow.Author.Tests.{lt-ltb, le-ltb}
use Rattle.cabinet_state.proofs.writing.with_check.Goals as goal

pub returns-then-k-lt-CHECK : goal.returns-then-k-lt-CHECK
returns-then-k-lt-CHECK c = simp (lt-ltb _ _ c.if-k-lt-CHECK.true, c.column.ensures)

pub returns : goal.returns
returns c = simp (le-ltb _ _ c.if-k-lt-CHECK.false)
