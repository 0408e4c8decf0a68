-- Each kind by its own route.
use Rattle.model.specs.Routes.{route}
use Rattle.model.proofs.routes.route.Goals as goal

pub returns-in-Vote : goal.returns-in-Vote
unfolding route
returns-in-Vote c = simp (c.in-Vote.is, c.vote_route.ensures)

pub returns-in-Ack : goal.returns-in-Ack
unfolding route
returns-in-Ack c = simp (c.in-Ack.is, c.ack_route.ensures)

pub returns-in-Help : goal.returns-in-Help
unfolding route
returns-in-Help c = simp (c.in-Help.is, c.help_route.ensures)

pub returns-in-Helped : goal.returns-in-Helped
unfolding route
returns-in-Helped c = simp (c.in-Helped.is, c.help_route-in-Helped.ensures)
