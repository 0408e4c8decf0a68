-- `survey_output::surveying::most_with` meets its contract.
use borrow.Author.Tests.{lt-ltb, le-ltb}
use Rattle.survey_output.proofs.surveying.most_with.Goals as goal

pub returns-then-m-sent : goal.returns-then-m-sent
returns-then-m-sent c = simp (lt-ltb _ _ c.if-m-sent.true)

pub returns : goal.returns
returns c = simp (le-ltb _ _ c.if-m-sent.false)
