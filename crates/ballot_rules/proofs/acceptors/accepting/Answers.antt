use mathlib.Core.Path.{refl}
use Rattle.protocol.specs.BallotRules.{accepting}
use Rattle.ballot_rules.proofs.acceptors.accepting.Goals as goal

pub returns : goal.returns
unfolding accepting
returns c = refl
