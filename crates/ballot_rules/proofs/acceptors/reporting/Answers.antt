use mathlib.Core.Path.{refl}
use Rattle.protocol.specs.BallotRules.{reporting}
use Rattle.ballot_rules.proofs.acceptors.reporting.Goals as goal

pub returns : goal.returns
unfolding reporting
returns c = refl
