-- `protocol::stray_ballots` meets its contract.
use Rattle.protocol.proofs.strays.Ballots.{ballot-strays}
use Rattle.protocol.proofs.stray_ballots.Goals as goal

pub returns : goal.returns
returns c = ballot-strays
