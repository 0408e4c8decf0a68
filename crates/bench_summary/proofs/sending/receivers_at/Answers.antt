-- `bench_summary::sending::receivers_at` meets its contract.
use borrow.Author.Tests.{lt-ltb, le-ltb}
use Rattle.bench_summary.proofs.sending.receivers_at.Goals as goal

pub returns-then-i-lt-LIMIT : goal.returns-then-i-lt-LIMIT
returns-then-i-lt-LIMIT c = simp (lt-ltb _ _ c.if-i-lt-LIMIT.true, c.receivers.ensures)

pub returns : goal.returns
returns c = simp (le-ltb _ _ c.if-i-lt-LIMIT.false)
