use Rattle.protocol.specs.Calls.{decide}
use Rattle.controller.proofs.lifecycle.decide.Goals as goal

pub returns-then-awaits_decision : goal.returns-then-awaits_decision
unfolding decide
returns-then-awaits_decision c = simp (← c.awaits_decision.ensures, c.if-awaits_decision.true, c.word_of.ensures, c.conclude.ensures, c.becomes.ensures)

pub returns : goal.returns
unfolding decide
returns c = simp (← c.awaits_decision.ensures, c.if-awaits_decision.false, c.passed_over.ensures)
