-- `protocol::controller_alone` meets its contract.
use Rattle.protocol.proofs.alone.Theorem.{controller-alone}
use Rattle.protocol.proofs.controller_alone.Goals as goal

pub returns : goal.returns
returns c = controller-alone
