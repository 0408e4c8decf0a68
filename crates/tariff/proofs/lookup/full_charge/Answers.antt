-- `tariff::lookup::full_charge` meets its contract. The invariant: after some bands, the charge is the one found in the bands from there on.
use Rattle.std.specs.Prelude.{◌≡◌, length}
use Rattle.std.proofs.Common.{sym, ◌∙◌, arith}
use Rattle.tariff.specs.Tariff.{tariff, full_charge}
use Rattle.tariff.proofs.TariffLaws.{found_here, found-later}
use Rattle.tariff.proofs.lookup.full_charge.Goals as goal

pub returns-then-length-band : goal.returns-then-length-band
returns-then-length-band c = sym (c.loop-band.invariant ∙ found_here tariff c.loop-band.band-index _ (omega arith) (omega arith))

pub loop-band-preserved : goal.loop-band-preserved
loop-band-preserved c = c.loop-band.invariant ∙ found-later tariff c.loop-band.band-index _ (omega arith) (omega arith)

pub returns : goal.returns
unfolding full_charge
returns c = let e : c.loop-band.band-index ≡ length tariff = omega arith in sym (c.loop-band.invariant ∙ rw e)
