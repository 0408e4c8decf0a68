use Rattle.controller_state.proofs.conditions.noting.Goals as goal

pub returns-in-Running : goal.returns-in-Running
returns-in-Running c = simp (c.in-Running.is, ← c.or_else.ensures, c.in_phase.ensures)

pub returns-in-Standby : goal.returns-in-Standby
returns-in-Standby c = simp (c.in-Standby.is, c.or_else-in-Standby.ensures)
