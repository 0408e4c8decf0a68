use Rattle.message_record.specs.BallotMessages.{reports_last}
use borrow.Author.Tests.{eq-eqb, ne_eqb}
use Rattle.message_record.proofs.ballots.reports_last.Goals as goal

pub returns-then-last-eq0 : goal.returns-then-last-eq0
unfolding reports_last
returns-then-last-eq0 c = simp (eq-eqb _ _ c.if-last-eq0.true, c.is_none.ensures)

pub returns-then-not-is_none : goal.returns-then-not-is_none
unfolding reports_last
returns-then-not-is_none c = simp (ne_eqb _ _ c.if-last-eq0.false, ← c.is_none-2.ensures, c.if-not-is_none.true)

pub returns-else-not-is_none : goal.returns-else-not-is_none
unfolding reports_last
returns-else-not-is_none c = simp (ne_eqb _ _ c.if-last-eq0.false, ← c.is_none-2.ensures, c.if-not-is_none.false)
