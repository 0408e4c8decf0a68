-- `ground::has` meets its contract. A mask has 32 bits, so nothing above 32 is in it.
use mathlib.Core.Path.{◌≡◌, sym}
use native.Mathlib.Omega.{arith}
use Rattle.ground.specs.Mask.{has}
use Rattle.ground.proofs.MaskLaws.{has-at}
use Rattle.ground.proofs.Inclusion.{has-past}
use Rattle.ground.proofs.mask.has.Goals as goal

pub returns-then-k-lt1 : goal.returns-then-k-lt1
unfolding has
returns-then-k-lt1 c = let z : c.args.k ≡ 0 = omega arith in rw z

pub returns-then-k-gt32 : goal.returns-then-k-gt32
returns-then-k-gt32 c = sym (has-past 32 _ _ c.ranges.m.fits c.if-k-gt32.true)

pub returns : goal.returns
returns c = sym (has-at _ _ (omega arith))
