-- `protocol::stray_messages` meets its contract.
use Rattle.protocol.proofs.strays.Strayed.{strays}
use Rattle.protocol.proofs.stray_messages.Goals as goal

pub returns : goal.returns
returns c = strays
