use mathlib.Core.Path.{refl}
use Rattle.protocol.specs.BallotRules.{putting}
use Rattle.ballot_rules.proofs.owners.putting.Goals as goal

pub returns : goal.returns
unfolding putting
returns c = refl
