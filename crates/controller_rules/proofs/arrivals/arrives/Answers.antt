-- Each kind by its own rule.
use Rattle.protocol.specs.Calls.{arrives}
use Rattle.controller_rules.proofs.arrivals.arrives.Goals as goal

pub returns-in-Vote : goal.returns-in-Vote
unfolding arrives
returns-in-Vote c = simp (c.in-Vote.is, c.vote_arrives.ensures)

pub returns-in-Ack : goal.returns-in-Ack
unfolding arrives
returns-in-Ack c = simp (c.in-Ack.is, c.ack_arrives.ensures)

pub returns-in-Help : goal.returns-in-Help
unfolding arrives
returns-in-Help c = simp (c.in-Help.is, c.help_arrives.ensures)

pub returns-in-Helped : goal.returns-in-Helped
unfolding arrives
returns-in-Helped c = simp (c.in-Helped.is, c.helped_arrives.ensures)
