-- `line::fair_line` meets its contract: the theorem of Theorem.antt, and the examples computed. Assumes nothing.
use Rattle.line.proofs.Theorem.{fair-line}
use Rattle.line.proofs.Examples.{examples_hold}
use Rattle.line.proofs.fair_line.Goals as goal

pub returns : goal.returns
returns c = record { fair_line = fair-line; examples_hold = examples_hold }
