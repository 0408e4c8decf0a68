-- No lockage pays more than the tariff's last charge.
use Rattle.std.specs.Prelude.{ℕ, ◌≤◌, Bool, true, false}
use Rattle.std.proofs.Common.{arith}
use Rattle.model.specs.declared.Outcome.{Outcome}
use Rattle.model.specs.declared.Outcome.TheVariants.{None, Stay, Move}
use Rattle.tariff.specs.Tariff.{tariff, full_charge}
use Rattle.tariff.proofs.TariffLaws.{full-charge-most}
use Rattle.tariff.specs.ShareLaws.{half-most}
use Rattle.tariff.specs.Charges.{charge}

pub charge-most : (x : ℕ) (o : Outcome) (b : Bool) → charge x o b ≤ 1587
unfolding charge
charge-most x None b = omega arith
charge-most x Stay b = omega arith
charge-most x Move true = omega (arith, half-most (full_charge tariff x), full-charge-most x)
charge-most x Move false = full-charge-most x
