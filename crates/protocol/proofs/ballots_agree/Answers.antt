-- `protocol::ballots_agree` meets its contract.
use Rattle.protocol.proofs.paxos.Chosen.{ballots_agree}
use Rattle.protocol.proofs.ballots_agree.Goals as goal

pub returns : goal.returns
returns c = ballots_agree
