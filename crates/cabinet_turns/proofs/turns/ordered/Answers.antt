use Rattle.cabinet_turns.specs.Turns.{ordered}
use Rattle.cabinet_turns.proofs.turns.ordered.Goals as goal

pub returns : goal.returns
unfolding ordered
returns c = simp (← c.renew.ensures, c.unsent_in.ensures)
