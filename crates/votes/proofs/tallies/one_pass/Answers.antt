-- `votes::one_pass` meets its contract.
use Rattle.votes.proofs.Pass.{one_pass}
use Rattle.votes.proofs.tallies.one_pass.Goals as goal

pub returns : goal.returns
returns c = one_pass
