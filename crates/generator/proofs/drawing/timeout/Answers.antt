use Rattle.generator.specs.Drawing.{timeout}
use Rattle.generator.proofs.drawing.timeout.Goals as goal

pub returns : goal.returns
unfolding timeout
returns c = simp (← c.draw-a.ensures, c.controller_of.ensures)
