use Rattle.cabinet_turns.specs.Turns.{woken_by}
use Rattle.cabinet_turns.proofs.turns.woken_by.Goals as goal

pub returns : goal.returns
unfolding woken_by
returns c = simp (← c.later_order-order.ensures, ← c.in_order.ensures, ← c.standing_by.ensures, c.unsent_in.ensures)
