use Rattle.model.specs.Questions.{first_no, unless}
use borrow.Author.Tests.{le-leb, lt-leb}
use Rattle.message_record.proofs.questions.head_question.Goals as goal

pub returns-then-not-sizes_in_range : goal.returns-then-not-sizes_in_range
unfolding first_no unless
returns-then-not-sizes_in_range c = simp (← c.sizes_in_range.ensures, c.if-not-sizes_in_range.true)

pub returns-then-not-different_controllers : goal.returns-then-not-different_controllers
unfolding first_no unless
returns-then-not-different_controllers c = simp (← c.sizes_in_range.ensures, c.if-not-sizes_in_range.false, ← c.different_controllers.ensures, c.if-not-different_controllers.true)

pub returns-then-order-lt1 : goal.returns-then-order-lt1
unfolding first_no unless
returns-then-order-lt1 c = simp (← c.sizes_in_range.ensures, c.if-not-sizes_in_range.false, ← c.different_controllers.ensures, c.if-not-different_controllers.false, lt-leb _ _ c.if-order-lt1.true)

pub returns : goal.returns
unfolding first_no unless
returns c = simp (← c.sizes_in_range.ensures, c.if-not-sizes_in_range.false, ← c.different_controllers.ensures, c.if-not-different_controllers.false, le-leb _ _ c.if-order-lt1.false)
