-- `survey_output::surveying::with_one` meets its contract.
use Rattle.survey.specs.Surveys.{with_one}
use Rattle.survey_output.proofs.surveying.with_one.Goals as goal

pub returns : goal.returns
unfolding with_one
returns c =
    simp (c.most_with.ensures, c.messages_with.ensures, c.endings_with.ensures, c.ending_of.ensures, c.all_kinds-total.ensures)
