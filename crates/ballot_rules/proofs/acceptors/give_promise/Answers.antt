use Rattle.protocol.specs.BallotRules.{give_promise}
use Rattle.ballot_rules.proofs.acceptors.give_promise.Goals as goal

pub returns : goal.returns
unfolding give_promise
returns c = simp (← c.promising.ensures, c.reporting.ensures)
