use Rattle.protocol.specs.BallotCalls.{receive_ballot}
use Rattle.controller.proofs.ballots.receive_ballot.Goals as goal

pub returns-then-not-takes_ballot : goal.returns-then-not-takes_ballot
unfolding receive_ballot
returns-then-not-takes_ballot c = simp (← c.takes_ballot.ensures, c.if-not-takes_ballot.true, c.unanswered.ensures)

pub returns : goal.returns
unfolding receive_ballot
returns c = simp (← c.takes_ballot.ensures, c.if-not-takes_ballot.false, c.arrives.ensures)
