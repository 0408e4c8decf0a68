use mathlib.Core.Path.{refl}
use Rattle.protocol.specs.BallotRules.{giving}
use Rattle.ballot_rules.proofs.owners.giving.Goals as goal

pub returns : goal.returns
unfolding giving
returns c = refl
