use Rattle.protocol.specs.Rules.{ack_arrives}
use Rattle.controller_rules.proofs.arrivals.ack_arrives.Goals as goal

pub returns-then-takes_ack : goal.returns-then-takes_ack
unfolding ack_arrives
returns-then-takes_ack c = simp (← c.takes_ack.ensures, c.if-takes_ack.true, c.keep_ack.ensures, c.becomes.ensures, c.propose_if_sufficient.ensures)

pub returns : goal.returns
unfolding ack_arrives
returns c = simp (← c.takes_ack.ensures, c.if-takes_ack.false, c.passed_over.ensures)
