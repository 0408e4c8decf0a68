use Rattle.protocol.specs.Steps.{proposed_to}
use Rattle.bench_state.proofs.shared.proposed_to.Goals as goal

pub returns : goal.returns
unfolding proposed_to
returns c = simp (c.is_move.ensures, c.is_stay.ensures)
