-- `protocol::open_count` meets its contract: the theorem of OpenGates.antt. Assumes nothing.
use Rattle.protocol.proofs.OpenGates.{open-count}
use Rattle.protocol.proofs.open_count.Goals as goal

pub returns : goal.returns
returns c = open-count
