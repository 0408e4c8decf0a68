-- `protocol::ballots_not_hollow` meets its contract.
use Rattle.protocol.proofs.settles.Given.{ballots-not_hollow}
use Rattle.protocol.proofs.ballots_not_hollow.Goals as goal

pub returns : goal.returns
returns c = ballots-not_hollow
