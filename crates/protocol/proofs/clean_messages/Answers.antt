-- `protocol::clean_messages` meets its contract: the theorem of Exact.antt. Assumes nothing.
use Rattle.protocol.proofs.clean.Exact.{clean-messages}
use Rattle.protocol.proofs.clean_messages.Goals as goal

pub returns : goal.returns
returns c = clean-messages
