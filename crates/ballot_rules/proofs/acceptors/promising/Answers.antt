use mathlib.Core.Path.{refl}
use Rattle.protocol.specs.BallotRules.{promising}
use Rattle.ballot_rules.proofs.acceptors.promising.Goals as goal

pub returns : goal.returns
unfolding promising
returns c = refl
