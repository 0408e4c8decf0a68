-- `ground::full_to` meets its contract. A mask has 32 bits, so it never holds all of more than 32.
use Rattle.ground.proofs.Computed.{filled}
use mathlib.Core.Path.{sym}
use native.Mathlib.Omega.{arith}
use lib.Pow.{pow_pos}
use Rattle.ground.proofs.Inclusion.{full-past}
use Rattle.ground.proofs.mask.full_to.Goals as goal

pub returns-then-n-gt32 : goal.returns-then-n-gt32
returns-then-n-gt32 c = sym (full-past 32 _ _ c.ranges.m.fits c.if-n-gt32.true)

pub overflow_sub-result : goal.overflow_sub-result
overflow_sub-result c = omega (arith, pow_pos c.args.n)

pub overflow_sub-result-2 : goal.overflow_sub-result-2
overflow_sub-result-2 c = omega (arith, pow_pos c.args.n)

pub returns : goal.returns
returns c = filled _ _ _ c.power-p.ensures
