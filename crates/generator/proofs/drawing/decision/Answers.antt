use Rattle.generator.specs.Drawing.{decision}
use Rattle.generator.proofs.drawing.decision.Goals as goal

pub returns : goal.returns
unfolding decision
returns c = simp (← c.draw-a.ensures, ← c.draw-b.ensures, ← c.controller_of.ensures, c.is_move_of.ensures)
