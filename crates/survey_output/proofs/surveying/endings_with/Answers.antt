-- `survey_output::surveying::endings_with` meets its contract.
use Rattle.survey_output.proofs.surveying.endings_with.Goals as goal

pub returns-in-Moved : goal.returns-in-Moved
returns-in-Moved c = simp c.in-Moved.is

pub returns-in-Stayed : goal.returns-in-Stayed
returns-in-Stayed c = simp c.in-Stayed.is

pub returns-in-Rest : goal.returns-in-Rest
returns-in-Rest c = simp c.in-Rest.is
