-- `tariff::charge::half_up` meets its contract.
use native.Mathlib.Omega.{arith}
use Rattle.tariff.specs.Shares.{rounded_up}
use Rattle.tariff.specs.ShareLaws.{is-smallest}
use Rattle.tariff.proofs.charge.half_up.Goals as goal

pub returns : goal.returns
unfolding rounded_up
returns c = (omega arith, is-smallest (omega arith) (omega arith))
