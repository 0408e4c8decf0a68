use Rattle.generator.specs.Drawing.{interrupted}
use Rattle.generator.proofs.drawing.interrupted.Goals as goal

pub returns : goal.returns
unfolding interrupted
returns c = simp (← c.draw-a.ensures, ← c.controller_of.ensures, c.interruption-event.ensures)
