-- `tariff::charge::shares_of` meets its contract.
use Rattle.tariff.specs.ShareLaws.{upper-most}
use Rattle.tariff.specs.Charges.{shared}
use Rattle.tariff.proofs.ChargeLaws.{charge-most}
use Rattle.tariff.proofs.charge.shares_of.Goals as goal

pub upper_share-upper-requires : goal.upper_share-upper-requires
upper_share-upper-requires c = rw c.charge-pence.ensures (charge-most _ _ _)

pub overflow_sub-result : goal.overflow_sub-result
overflow_sub-result c = rw c.upper_share-upper.ensures.0 (upper-most _)

pub returns : goal.returns
unfolding shared
returns c = simp (← c.charge-pence.ensures, c.upper_share-upper.ensures.0)
