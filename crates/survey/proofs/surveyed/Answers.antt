-- `survey::surveyed` meets its contract.
use Rattle.survey.proofs.AllSurveyed.{all_surveyed}
use Rattle.survey.proofs.surveyed.Goals as goal

pub returns : goal.returns
returns c = all_surveyed
