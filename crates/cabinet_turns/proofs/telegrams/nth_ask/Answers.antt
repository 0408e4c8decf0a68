use Rattle.cabinet_turns.specs.Telegrams.{asks_sent}
use borrow.Author.Tests.{eq-eqb, ne_eqb}
use Rattle.cabinet_turns.proofs.telegrams.nth_ask.Goals as goal

pub returns-then-x-eq0 : goal.returns-then-x-eq0
unfolding asks_sent
returns-then-x-eq0 c = simp (eq-eqb _ _ c.if-x-eq0.true)

pub returns : goal.returns
unfolding asks_sent
returns c = simp (ne_eqb _ _ c.if-x-eq0.false, c.nth_to_others.ensures)
