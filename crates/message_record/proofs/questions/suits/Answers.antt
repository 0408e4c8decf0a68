use Rattle.message_record.specs.Messages.{suits}
use Rattle.message_record.proofs.questions.suits.Goals as goal

pub returns-then-not-bits_in_range : goal.returns-then-not-bits_in_range
unfolding suits
returns-then-not-bits_in_range c = simp (← c.bits_in_range.ensures, c.if-not-bits_in_range.true)

pub returns-then-not-within : goal.returns-then-not-within
unfolding suits
returns-then-not-within c = simp (← c.bits_in_range.ensures, c.if-not-bits_in_range.false, ← c.within.ensures, c.if-not-within.true)

pub returns : goal.returns
unfolding suits
returns c = simp (← c.bits_in_range.ensures, c.if-not-bits_in_range.false, ← c.within.ensures, c.if-not-within.false, c.knows_for_kind.ensures)
