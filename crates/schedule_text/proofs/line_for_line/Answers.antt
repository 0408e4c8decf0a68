use Rattle.schedule_text.proofs.LineForLine.{line_for-line}
use Rattle.schedule_text.proofs.line_for_line.Goals as goal

pub returns : goal.returns
returns c = line_for-line
