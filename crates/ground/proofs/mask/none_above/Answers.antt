-- `ground::none_above` meets its contract. A mask has 32 bits, so nothing above 32 is in it.
use mathlib.Core.Path.{sym}
use native.Mathlib.Omega.{arith}
use Rattle.ground.specs.Mask.{none_above}
use Rattle.ground.proofs.Inclusion.{none-above-past}
use Rattle.ground.proofs.mask.none_above.Goals as goal

pub returns-then-n-gt32 : goal.returns-then-n-gt32
returns-then-n-gt32 c = sym (none-above-past 32 _ _ c.ranges.m.fits (omega arith))

pub returns : goal.returns
unfolding none_above
returns c = rw c.power.ensures
