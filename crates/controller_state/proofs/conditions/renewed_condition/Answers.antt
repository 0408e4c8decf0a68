use Rattle.controller_state.proofs.conditions.renewed_condition.Goals as goal

pub returns : goal.returns
returns c = simp (← c.is_stopped.ensures, c.if-is_stopped.false, c.in_phase.ensures)
