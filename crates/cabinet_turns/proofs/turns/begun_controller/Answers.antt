use Rattle.cabinet_turns.proofs.turns.begun_controller.Goals as goal

pub returns : goal.returns
returns c = simp (← c.in_phase.ensures, ← c.empty_set.ensures, c.blank.ensures)
