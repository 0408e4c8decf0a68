use Rattle.generator.specs.Drawing.{delivery}
use Rattle.generator.proofs.drawing.delivery.Goals as goal

pub returns : goal.returns
unfolding delivery
returns c = simp (← c.draw-a.ensures, ← c.draw-b.ensures, ← c.draw-c.ensures, ← c.controller_of.ensures, ← c.controller_of-2.ensures, c.message_kind_of.ensures)
