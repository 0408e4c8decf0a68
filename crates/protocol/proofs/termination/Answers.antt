-- `protocol::termination` meets its contract: the theorem of hearing/Theorem.antt. Assumes nothing.
use Rattle.protocol.proofs.hearing.Theorem.{termination}
use Rattle.protocol.proofs.termination.Goals as goal

pub returns : goal.returns
returns c = termination
