use Rattle.cabinet_turns.specs.Turns.{timed_out}
use Rattle.cabinet_turns.proofs.turns.timed_out.Goals as goal

pub returns : goal.returns
unfolding timed_out
returns c = simp (← c.timeout.ensures, c.answered.ensures)
