use Rattle.cabinet_state.proofs.reading.set_in.Goals as goal

pub returns : goal.returns
returns c = simp (← c.word.ensures, c.word-2.ensures)
