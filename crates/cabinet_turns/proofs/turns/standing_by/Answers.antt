use Rattle.cabinet_turns.proofs.turns.standing_by.Goals as goal

pub returns : goal.returns
returns c = simp (← c.stop-a.ensures, c.restore-b.ensures)
