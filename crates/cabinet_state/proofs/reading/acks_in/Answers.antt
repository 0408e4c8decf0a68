use Rattle.cabinet_state.specs.Words.{acks_in}
use Rattle.cabinet_state.proofs.reading.acks_in.Goals as goal

pub returns : goal.returns
unfolding acks_in
returns c = simp (← c.sets_in-sets.ensures, ← c.word.ensures, c.small.ensures)
