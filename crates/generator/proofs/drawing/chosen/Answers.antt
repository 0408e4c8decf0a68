use borrow.Author.Tests.{lt-ltb, le-ltb}
use Rattle.generator.specs.Drawing.{chosen}
use Rattle.generator.proofs.drawing.chosen.Goals as goal

pub returns-then-s-lt6 : goal.returns-then-s-lt6
unfolding chosen
returns-then-s-lt6 c = simp (lt-ltb _ _ c.if-s-lt6.true, c.delivery.ensures)

pub returns-then-s-lt8 : goal.returns-then-s-lt8
unfolding chosen
returns-then-s-lt8 c = simp (le-ltb _ _ c.if-s-lt6.false, lt-ltb _ _ c.if-s-lt8.true, c.timeout.ensures)

pub returns-then-s-lt9 : goal.returns-then-s-lt9
unfolding chosen
returns-then-s-lt9 c = simp (le-ltb _ _ c.if-s-lt6.false, le-ltb _ _ c.if-s-lt8.false, lt-ltb _ _ c.if-s-lt9.true, c.decision.ensures)

pub returns : goal.returns
unfolding chosen
returns c = simp (le-ltb _ _ c.if-s-lt6.false, le-ltb _ _ c.if-s-lt8.false, le-ltb _ _ c.if-s-lt9.false, ← c.draw.ensures, c.interrupted.ensures)
