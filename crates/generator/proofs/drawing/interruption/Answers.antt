use borrow.Author.Tests.{eq-eqb, ne_eqb}
use Rattle.generator.specs.Drawing.{interruption}
use Rattle.generator.proofs.drawing.interruption.Goals as goal

pub returns-then-s-eq0 : goal.returns-then-s-eq0
unfolding interruption
returns-then-s-eq0 c = simp (eq-eqb _ _ c.if-s-eq0.true)

pub returns-then-s-eq1 : goal.returns-then-s-eq1
unfolding interruption
returns-then-s-eq1 c = simp (ne_eqb _ _ c.if-s-eq0.false, eq-eqb _ _ c.if-s-eq1.true)

pub returns : goal.returns
unfolding interruption
returns c = simp (ne_eqb _ _ c.if-s-eq0.false, ne_eqb _ _ c.if-s-eq1.false)
