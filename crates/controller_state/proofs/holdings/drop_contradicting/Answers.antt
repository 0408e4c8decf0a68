use Rattle.protocol.specs.Controllers.{drop_contradicting}
use Rattle.controller_state.proofs.holdings.drop_contradicting.Goals as goal

pub returns : goal.returns
unfolding drop_contradicting
returns c = simp c.drop_to-acks.ensures
