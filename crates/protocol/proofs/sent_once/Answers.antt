-- `protocol::sent_once` meets its contract: the theorem of counting/Counted.antt. Assumes nothing.
use Rattle.protocol.proofs.counting.Counted.{sent-once}
use Rattle.protocol.proofs.sent_once.Goals as goal

pub returns : goal.returns
returns c = sent-once
