-- `survey_output::as_shown` meets its contract.
use Rattle.survey_output.proofs.Ends.{all_shown}
use Rattle.survey_output.proofs.as_shown.Goals as goal

pub returns : goal.returns
returns c = all_shown
