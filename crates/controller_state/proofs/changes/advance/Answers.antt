use Rattle.protocol.specs.Controllers.{advance}
use Rattle.controller_state.proofs.changes.advance.Goals as goal

pub returns : goal.returns
unfolding advance
returns c = simp (c.outcome_in.ensures, c.in_phase.ensures)
