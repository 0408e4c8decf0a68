use Rattle.protocol.specs.Controllers.{conclude}
use Rattle.controller_state.proofs.changes.conclude.Goals as goal

pub returns : goal.returns
unfolding conclude
returns c = simp (c.noting.ensures, c.landing.ensures)
