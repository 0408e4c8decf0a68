-- `protocol::trials_hold` meets its contract.
use Rattle.protocol.proofs.Computed.{trials}
use Rattle.protocol.proofs.trials_hold.Goals as goal

pub returns : goal.returns
returns c = trials
