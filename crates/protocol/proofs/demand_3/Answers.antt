-- `protocol::demand_3` meets its contract: the theorem of Theorem.antt. Assumes nothing.
use Rattle.protocol.proofs.claim.Theorem.{demand_3}
use Rattle.protocol.proofs.demand_3.Goals as goal

pub returns : goal.returns
returns c = demand_3
