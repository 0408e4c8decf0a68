-- `tariff::charge::reduced` meets its contract.
use Rattle.tariff.proofs.charge.reduced.Goals as goal

pub returns-then-returned : goal.returns-then-returned
returns-then-returned c = simp (c.if-returned.true, c.half_up.ensures.0)
