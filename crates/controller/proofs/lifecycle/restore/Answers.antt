use Rattle.protocol.specs.Calls.{restore}
use Rattle.controller.proofs.lifecycle.restore.Goals as goal

pub returns-then-is_stopped : goal.returns-then-is_stopped
unfolding restore
returns-then-is_stopped c = simp (← c.is_stopped.ensures, c.if-is_stopped.true, c.outcome_kept-outcome.ensures, c.cleared-next.ensures, c.becomes.ensures)

pub returns : goal.returns
unfolding restore
returns c = simp (← c.is_stopped.ensures, c.if-is_stopped.false, c.passed_over.ensures)
