-- `ground::mask::power` meets its contract: the shift loses nothing, since 2 to the 32 fits 64 bits.
use Rattle.ground.proofs.Computed.{shifted}
use native.Mathlib.Omega.{arith}
use Rattle.ground.proofs.mask.power.Goals as goal

pub returns : goal.returns
returns c = shifted 64 c.args.n (omega arith)
