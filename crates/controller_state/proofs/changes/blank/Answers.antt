use Rattle.controller_state.proofs.changes.blank.Goals as goal

pub returns : goal.returns
returns c = simp (c.empty_set.ensures, c.empty_set-2.ensures, c.empty_set-3.ensures)
