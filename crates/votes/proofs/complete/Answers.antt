-- `votes::complete` meets its contract: the test of the mask is the definition.
use Rattle.votes.specs.VoteSets.{complete}
use Rattle.votes.proofs.complete.Goals as goal

pub returns : goal.returns
unfolding complete
returns c = c.full_to.ensures
