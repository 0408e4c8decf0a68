-- `protocol::reach` meets its contract: the theorem of ranges/Reached.antt. Assumes nothing.
use Rattle.protocol.proofs.ranges.Reached.{reach}
use Rattle.protocol.proofs.reach.Goals as goal

pub returns : goal.returns
returns c = reach
