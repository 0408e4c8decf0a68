use Rattle.protocol.specs.Controllers.{cleared}
use Rattle.controller_state.proofs.changes.cleared.Goals as goal

pub returns : goal.returns
unfolding cleared
returns c = simp c.blank.ensures
