use Rattle.protocol.specs.Benches.{fresh}
use Rattle.controller_state.proofs.changes.fresh.Goals as goal

pub returns : goal.returns
unfolding fresh
returns c = simp (c.in_phase.ensures, c.empty_set.ensures, c.blank.ensures)
