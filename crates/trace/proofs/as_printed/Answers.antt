use Rattle.trace.proofs.Answers.{answers-printed}
use Rattle.trace.proofs.LastShown.{lines_printed}
use Rattle.trace.proofs.as_printed.Goals as goal

pub returns : goal.returns
returns c = record { answers = answers-printed; lines = λ acts k l u. lines_printed k acts l u }
