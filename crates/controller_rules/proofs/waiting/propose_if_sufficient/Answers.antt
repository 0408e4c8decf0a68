use Rattle.protocol.specs.Rules.{propose_if_sufficient}
use Rattle.controller_rules.proofs.waiting.propose_if_sufficient.Goals as goal

pub returns-then-sufficient : goal.returns-then-sufficient
unfolding propose_if_sufficient
returns-then-sufficient c = simp (← c.sufficient.ensures, c.if-sufficient.true, c.answers_verdict.ensures, c.proposing.ensures)

pub returns : goal.returns
unfolding propose_if_sufficient
returns c = simp (← c.sufficient.ensures, c.if-sufficient.false)
