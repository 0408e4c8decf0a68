use Rattle.protocol.specs.Controllers.{learn}
use Rattle.controller_state.proofs.changes.learn.Goals as goal

pub returns : goal.returns
unfolding learn
returns c = simp (← c.join.ensures, c.agreed_or-votes.ensures)
