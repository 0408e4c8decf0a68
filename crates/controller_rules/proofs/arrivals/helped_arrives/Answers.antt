use Rattle.protocol.specs.Rules.{helped_arrives}
use Rattle.controller_rules.proofs.arrivals.helped_arrives.Goals as goal

pub returns-then-has : goal.returns-then-has
unfolding helped_arrives
returns-then-has c = simp (← c.has.ensures, c.if-has.true, c.passed_over.ensures)

pub returns-then-c : goal.returns-then-c
unfolding helped_arrives
returns-then-c c = simp (← c.has.ensures, c.if-has.false, c.if-c.true, c.keep_helped.ensures, c.becomes.ensures, c.propose_if_sufficient.ensures)

pub returns : goal.returns
unfolding helped_arrives
returns c = simp (← c.has.ensures, c.if-has.false, c.if-c.false, c.passed_over-2.ensures)
