-- Each kind by its own set.
use Rattle.model.specs.Routes.{route, recipients}
use Rattle.model.proofs.routes.recipients.Goals as goal

pub returns-in-Vote : goal.returns-in-Vote
unfolding recipients route
returns-in-Vote c = simp (c.in-Vote.is, c.vote_recipients.ensures)

pub returns-in-Ack : goal.returns-in-Ack
unfolding recipients route
returns-in-Ack c = simp (c.in-Ack.is, c.ack_recipients.ensures)

pub returns-in-Help : goal.returns-in-Help
unfolding recipients route
returns-in-Help c = simp (c.in-Help.is, c.help_recipients.ensures)

pub returns-in-Helped : goal.returns-in-Helped
unfolding recipients route
returns-in-Helped c = simp (c.in-Helped.is, c.help_recipients-in-Helped.ensures)
