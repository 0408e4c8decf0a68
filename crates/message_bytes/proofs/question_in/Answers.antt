use Rattle.model.specs.Questions.{first_no, unless}
use Rattle.message_bytes.proofs.question_in.Goals as goal

pub returns-then-not-suits_width : goal.returns-then-not-suits_width
unfolding first_no unless
returns-then-not-suits_width c = simp (← c.size_of.ensures, ← c.suits_width.ensures, c.if-not-suits_width.true)

pub returns : goal.returns
unfolding first_no unless
returns c = simp (← c.size_of.ensures, ← c.suits_width.ensures, c.if-not-suits_width.false, c.telegram_question.ensures)
