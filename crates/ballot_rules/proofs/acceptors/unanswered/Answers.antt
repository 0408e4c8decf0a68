use Rattle.protocol.specs.BallotRules.{unanswered}
use Rattle.ballot_rules.proofs.acceptors.unanswered.Goals as goal

pub returns : goal.returns
unfolding unanswered
returns c = simp c.no_promise.ensures
