use Rattle.protocol.specs.BallotCalls.{ballot_arrives}
use Rattle.controller.proofs.ballots.arrives.Goals as goal

pub returns-in-Prepare : goal.returns-in-Prepare
unfolding ballot_arrives
returns-in-Prepare c = simp (c.in-Prepare.is, c.prepare_arrives.ensures)

pub returns-in-Promise : goal.returns-in-Promise
unfolding ballot_arrives
returns-in-Promise c = simp (c.in-Promise.is, c.promise_arrives.ensures)

pub returns-in-Accept : goal.returns-in-Accept
unfolding ballot_arrives
returns-in-Accept c = simp (c.in-Accept.is, c.accept_arrives.ensures)

pub returns-in-Accepted : goal.returns-in-Accepted
unfolding ballot_arrives
returns-in-Accepted c = simp (c.in-Accepted.is, c.unanswered.ensures)
