-- `tariff::bands_in_order` meets its contract: the one test of TariffLaws, and what it gives.
use Rattle.tariff.proofs.TariffLaws.{tariff_in-order}
use Rattle.tariff.proofs.lookup.bands_in_order.Goals as goal

pub returns : goal.returns
returns c = tariff_in-order
