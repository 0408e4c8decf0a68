use Rattle.message_record.specs.Messages.{bits_in_range}
use Rattle.message_record.proofs.questions.bits_in_range.Goals as goal

pub returns-then-none_above : goal.returns-then-none_above
unfolding bits_in_range
returns-then-none_above c = simp (← c.none_above.ensures, c.if-none_above.true, c.none_above-then-none_above.ensures)

pub returns-else-none_above : goal.returns-else-none_above
unfolding bits_in_range
returns-else-none_above c = simp (← c.none_above.ensures, c.if-none_above.false)
