use Rattle.protocol.specs.BallotRules.{accept}
use Rattle.ballot_rules.proofs.acceptors.accept.Goals as goal

pub returns : goal.returns
unfolding accept
returns c = simp (← c.accepting.ensures, c.no_promise.ensures)
