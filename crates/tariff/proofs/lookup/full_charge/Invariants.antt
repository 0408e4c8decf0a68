-- `tariff::lookup::full_charge` meets its contract. The invariant: after some bands, the charge is the one found in the bands from there on.
use Rattle.std.specs.Prelude.{◌≡◌, drop}
use Rattle.tariff.specs.Tariff.{tariff, full_charge}
use Rattle.tariff.proofs.lookup.full_charge.Given as goal

abbrev pub invariant-loop-band : goal.invariant-loop-band
invariant-loop-band l = full_charge tariff l.length ≡ full_charge (drop l.band-index tariff) l.length
