-- `protocol::kept_checkpoints` meets its contract.
use Rattle.protocol.proofs.Checkpoints.{kept-checkpoints}
use Rattle.protocol.proofs.kept_checkpoints.Goals as goal

pub returns : goal.returns
returns c = kept-checkpoints
