use Rattle.cabinet_state.specs.Words.{condition_in}
use Rattle.cabinet_state.proofs.reading.condition_in.Goals as goal

pub returns : goal.returns
unfolding condition_in
returns c = simp (← c.small.ensures, ← c.small-2.ensures, ← c.small-3.ensures, c.condition_from.ensures)
