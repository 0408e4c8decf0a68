use borrow.Author.Tests.{eq-eqb, ne_eqb}
use Rattle.cabinet_state.proofs.reading.condition_from.Goals as goal

pub returns-then-tag-eq0 : goal.returns-then-tag-eq0
returns-then-tag-eq0 c = simp (← c.outcome_of-outcome.ensures, eq-eqb _ _ c.if-tag-eq0.true, c.in_phase.ensures)

pub returns-then-tag-eq1 : goal.returns-then-tag-eq1
returns-then-tag-eq1 c = simp (ne_eqb _ _ c.if-tag-eq0.false, eq-eqb _ _ c.if-tag-eq1.true)

pub returns : goal.returns
returns c = simp (← c.outcome_of-outcome.ensures, ne_eqb _ _ c.if-tag-eq0.false, ne_eqb _ _ c.if-tag-eq1.false)
