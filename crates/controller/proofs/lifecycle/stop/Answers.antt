use Rattle.protocol.specs.Calls.{stop}
use Rattle.controller.proofs.lifecycle.stop.Goals as goal

pub returns-then-is_present : goal.returns-then-is_present
unfolding stop
returns-then-is_present c = simp (← c.is_present.ensures, c.if-is_present.true, c.cleared.ensures, c.becomes.ensures)

pub returns : goal.returns
unfolding stop
returns c = simp (← c.is_present.ensures, c.if-is_present.false, c.passed_over.ensures)
