use Rattle.cabinet_state.specs.Words.{identity_in}
use Rattle.cabinet_state.proofs.reading.identity_in.Goals as goal

pub returns : goal.returns
unfolding identity_in
returns c = simp (← c.small.ensures, ← c.small-2.ensures, ← c.small-3.ensures, c.word.ensures)
