use Rattle.cabinet_state.proofs.reading.outgoing_in.Goals as goal

pub returns : goal.returns
returns c = simp (← c.word.ensures, c.set_in.ensures)
