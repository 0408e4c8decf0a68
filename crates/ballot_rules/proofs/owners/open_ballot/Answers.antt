use Rattle.protocol.specs.BallotRules.{open_ballot}
use Rattle.ballot_rules.proofs.owners.open_ballot.Goals as goal

pub returns : goal.returns
unfolding open_ballot
returns c = simp (← c.reporting-promise.ensures, ← c.promising-promised.ensures, ← c.promise_arrives-x.ensures, c.giving.ensures)
