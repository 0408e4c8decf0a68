-- `survey_output::longest_output` meets its contract.
use mathlib.Core.Path.{refl}
use Rattle.survey_output.proofs.Texts.{all_fit}
use Rattle.survey_output.proofs.longest_output.Goals as goal

pub returns : goal.returns
returns c = (refl, all_fit)
