use Rattle.cabinet_turns.specs.Turns.{decided}
use Rattle.cabinet_turns.proofs.turns.decided.Goals as goal

pub returns : goal.returns
unfolding decided
returns c = simp (← c.flag_of.ensures, ← c.decide.ensures, c.answered.ensures)
