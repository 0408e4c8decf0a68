use mathlib.Core.Path.{refl}
use Rattle.generator.proofs.OutputLaws.{all_fit}
use Rattle.generator.proofs.output.longest_output.Goals as goal

pub returns : goal.returns
returns c = (refl, all_fit)
