use borrow.Author.Tests.{eq-eqb, ne_eqb}
use Rattle.event_record.proofs.kinds.order_listed.Goals as goal

pub returns-then-a-ne0 : goal.returns-then-a-ne0
returns-then-a-ne0 c = simp (ne_eqb _ _ c.if-a-ne0.true)

pub returns-then-b-eq0 : goal.returns-then-b-eq0
returns-then-b-eq0 c = simp (eq-eqb _ _ c.if-a-ne0.false, eq-eqb _ _ c.if-b-eq0.true)

pub returns-else-b-eq0 : goal.returns-else-b-eq0
returns-else-b-eq0 c = simp (eq-eqb _ _ c.if-a-ne0.false, ne_eqb _ _ c.if-b-eq0.false)
