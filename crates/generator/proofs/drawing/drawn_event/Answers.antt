use Rattle.generator.specs.Drawing.{drawn_event}
use Rattle.generator.proofs.drawing.drawn_event.Goals as goal

pub returns : goal.returns
unfolding drawn_event
returns c = simp (← c.draw.ensures, c.chosen.ensures)
