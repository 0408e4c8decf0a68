-- `protocol::no_contradiction` meets its contract.
use Rattle.protocol.proofs.contradictions.Untouched.{no_contradiction}
use Rattle.protocol.proofs.no_contradiction.Goals as goal

pub returns : goal.returns
returns c = no_contradiction
