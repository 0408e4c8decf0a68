use Rattle.cabinet_state.specs.Words.{helped_in}
use Rattle.cabinet_state.proofs.reading.helped_in.Goals as goal

pub returns : goal.returns
unfolding helped_in
returns c = simp (← c.set_in.ensures, ← c.word.ensures, c.small.ensures)
