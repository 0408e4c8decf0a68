-- `tariff::charge::charge` meets its contract.
use Rattle.tariff.proofs.TariffLaws.{full-charge-most}
use Rattle.tariff.specs.Charges.{charge}
use Rattle.tariff.proofs.charge.charge.Goals as goal

pub reduced-requires : goal.reduced-requires
reduced-requires c = rw c.full_charge.ensures (full-charge-most _)

pub returns-in-None : goal.returns-in-None
unfolding charge
returns-in-None c = simp c.in-None.is

pub returns-in-Stay : goal.returns-in-Stay
unfolding charge
returns-in-Stay c = simp c.in-Stay.is

pub returns-in-Move : goal.returns-in-Move
unfolding charge
returns-in-Move c = simp (c.in-Move.is, ← c.full_charge.ensures, c.reduced.ensures)
