-- `question` meets its contract: at each return the questions before it are passed, by what each test's call ensures.
use borrow.Author.Tests.{le-leb, lt-leb}
use Rattle.checkpoint_record.specs.Checkpoints.{about_checkpoint}
use Rattle.model.specs.Questions.{first_no, unless}
use Rattle.checkpoint_record.proofs.question.Goals as goal

pub returns-then-not-sizes_in_range : goal.returns-then-not-sizes_in_range
unfolding about_checkpoint first_no unless
returns-then-not-sizes_in_range c = simp (← c.sizes_in_range.ensures, c.if-not-sizes_in_range.true)

pub returns-then-not-is_controller : goal.returns-then-not-is_controller
unfolding about_checkpoint first_no unless
returns-then-not-is_controller c = simp (← c.sizes_in_range.ensures, c.if-not-sizes_in_range.false, ← c.is_controller.ensures, c.if-not-is_controller.true)

pub returns-then-p-lt1 : goal.returns-then-p-lt1
unfolding about_checkpoint first_no unless
returns-then-p-lt1 c = simp (← c.sizes_in_range.ensures, c.if-not-sizes_in_range.false, ← c.is_controller.ensures, c.if-not-is_controller.false, lt-leb _ _ c.if-p-lt1.true)

pub returns-then-not-position_in_range : goal.returns-then-not-position_in_range
unfolding about_checkpoint first_no unless
returns-then-not-position_in_range c =
    simp (← c.sizes_in_range.ensures, c.if-not-sizes_in_range.false, ← c.is_controller.ensures, c.if-not-is_controller.false, le-leb _ _ c.if-p-lt1.false, ← c.position_in_range.ensures, c.if-not-position_in_range.true)

pub returns : goal.returns
unfolding about_checkpoint first_no unless
returns c =
    simp (← c.sizes_in_range.ensures, c.if-not-sizes_in_range.false, ← c.is_controller.ensures, c.if-not-is_controller.false, le-leb _ _ c.if-p-lt1.false, ← c.position_in_range.ensures, c.if-not-position_in_range.false)
