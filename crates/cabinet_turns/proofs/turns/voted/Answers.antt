use Rattle.cabinet_turns.specs.Turns.{voted}
use Rattle.cabinet_turns.proofs.turns.voted.Goals as goal

pub returns : goal.returns
unfolding voted
returns c = simp (← c.flag_of.ensures, ← c.vote.ensures, c.answered.ensures)
