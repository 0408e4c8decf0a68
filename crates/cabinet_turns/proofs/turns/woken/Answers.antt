use Rattle.cabinet_turns.specs.Turns.{woken}
use Rattle.cabinet_turns.proofs.turns.woken.Goals as goal

pub returns-in-Err : goal.returns-in-Err
unfolding woken
returns-in-Err g c = simp c.in-Err.is

pub returns-in-Ok : goal.returns-in-Ok
unfolding woken
returns-in-Ok g c = simp (c.in-Ok.is, c.woken_by.ensures)
