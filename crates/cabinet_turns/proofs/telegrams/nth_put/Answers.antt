use Rattle.cabinet_turns.specs.Telegrams.{puts_sent}
use Rattle.cabinet_turns.proofs.telegrams.nth_put.Goals as goal

pub returns-then-is_none : goal.returns-then-is_none
unfolding puts_sent
returns-then-is_none c = simp (← c.is_none.ensures, c.if-is_none.true)

pub returns : goal.returns
unfolding puts_sent
returns c = simp (← c.is_none.ensures, c.if-is_none.false, c.nth_to_others.ensures)
