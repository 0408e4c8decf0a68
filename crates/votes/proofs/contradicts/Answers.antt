-- `votes::contradicts` meets its contract: the code is the definition.
use mathlib.Core.Path.{refl}
use Rattle.votes.specs.Joining.{contradicts}
use Rattle.votes.proofs.contradicts.Goals as goal

pub returns : goal.returns
unfolding contradicts
returns c = refl
