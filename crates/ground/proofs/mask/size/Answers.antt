-- `ground::size` meets its contract: the count of the set bits is the count of the members.
use lib.Pow.{pow_pos}
use lib.Count.{ones-le}
use Rattle.ground.proofs.Sizes.{size_le}
use Rattle.ground.proofs.Computed.{counted, counted-all}
use native.Mathlib.Omega.{arith}
use Rattle.ground.proofs.mask.size.Goals as goal

pub overflow_cast-result : goal.overflow_cast-result
overflow_cast-result c = omega (arith, ones-le 32 c.args.m c.ranges.m.fits)

pub returns-then-n-gt32 : goal.returns-then-n-gt32
returns-then-n-gt32 c = counted-all _ _ c.ranges.m.fits (omega arith)

pub overflow_sub-low : goal.overflow_sub-low
overflow_sub-low c = omega (arith, pow_pos c.args.n)

pub overflow_cast-result-2 : goal.overflow_cast-result-2
overflow_cast-result-2 c = omega (arith, counted c.args.m c.args.n c.power-p.result c.power-p.ensures, size_le c.args.n c.args.m)

pub returns : goal.returns
returns c = counted _ _ _ c.power-p.ensures
