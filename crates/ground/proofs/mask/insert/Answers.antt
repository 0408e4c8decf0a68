-- `ground::insert` meets its contract: a number that has a bit sets it, and no other changes the set.
use Rattle.ground.proofs.MaskLaws.{insert-zero, insert-past}
use Rattle.ground.proofs.Computed.{inserted}
use mathlib.Core.Path.{◌≡◌, sym}
use native.Mathlib.Omega.{arith}
use Rattle.ground.proofs.mask.insert.Goals as goal

pub returns-then-k-lt1 : goal.returns-then-k-lt1
returns-then-k-lt1 c = let z : c.args.k ≡ 0 = omega arith in rw (z, insert-zero)

pub returns-then-k-gt32 : goal.returns-then-k-gt32
returns-then-k-gt32 c = sym (insert-past _ _ c.if-k-gt32.true)

pub returns : goal.returns
returns c = inserted _ _ (omega arith) (omega arith)
