use Rattle.cabinet_turns.specs.Turns.{halted}
use Rattle.cabinet_turns.proofs.turns.halted.Goals as goal

pub returns : goal.returns
unfolding halted
returns c = simp (← c.stop.ensures, c.answered.ensures)
