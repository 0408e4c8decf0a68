-- `ground::within` meets its contract: the code is the definition.
use mathlib.Core.Path.{refl}
use Rattle.ground.specs.Mask.{within}
use Rattle.ground.proofs.mask.within.Goals as goal

pub returns : goal.returns
unfolding within
returns c = refl
