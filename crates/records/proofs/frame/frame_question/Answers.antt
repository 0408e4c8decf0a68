-- `frame_question` meets its contract.
use borrow.Author.Tests.{eq-eqb, ne_eqb}
use Rattle.model.specs.Questions.{first_no, unless}
use Rattle.records.proofs.frame.frame_question.Goals as goal

pub returns-then-s-size : goal.returns-then-s-size
unfolding first_no unless
returns-then-s-size c = simp (ne_eqb _ _ c.if-s-size.true)

pub returns-then-number2-mark : goal.returns-then-number2-mark
unfolding first_no unless
returns-then-number2-mark c = simp (eq-eqb _ _ c.if-s-size.false, ← c.number2.ensures, ne_eqb _ _ c.if-number2-mark.true)

pub returns : goal.returns
unfolding first_no unless
returns c = simp (eq-eqb _ _ c.if-s-size.false, ← c.number2.ensures, eq-eqb _ _ c.if-number2-mark.false)
