use Rattle.protocol.specs.BallotCalls.{is_of_owner}
use Rattle.controller.proofs.ballots.of_owner.Goals as goal

pub returns-in-Prepare : goal.returns-in-Prepare
unfolding is_of_owner
returns-in-Prepare c = simp (c.in-Prepare.is, c.owner.ensures)

pub returns-in-Promise : goal.returns-in-Promise
unfolding is_of_owner
returns-in-Promise c = simp (c.in-Promise.is, c.is_owner_in.ensures)

pub returns-in-Accept : goal.returns-in-Accept
unfolding is_of_owner
returns-in-Accept c = simp (c.in-Accept.is, c.owner-in-Accept.ensures)

pub returns-in-Accepted : goal.returns-in-Accepted
unfolding is_of_owner
returns-in-Accepted c = simp (c.in-Accepted.is, c.is_owner_in-in-Accepted.ensures)
