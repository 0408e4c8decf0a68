-- `survey::questions::refusal_of` meets its contract: each way through it is one reply to the questions.
use borrow.Author.Tests.{le-leb, lt-leb}
use Rattle.model.specs.Questions.{first_no, unless}
use Rattle.survey.specs.Questions.{refusal_of}
use Rattle.survey.proofs.questions.refusal_of.Goals as goal

pub returns-then-not-sizes_in_range : goal.returns-then-not-sizes_in_range
unfolding refusal_of first_no unless
returns-then-not-sizes_in_range c = simp (← c.sizes_in_range.ensures, c.if-not-sizes_in_range.true)

pub returns-then-not-numbers_in_range : goal.returns-then-not-numbers_in_range
unfolding refusal_of first_no unless
returns-then-not-numbers_in_range c =
    simp (← c.sizes_in_range.ensures, c.if-not-sizes_in_range.false, ← c.numbers_in_range.ensures, c.if-not-numbers_in_range.true)

pub returns-then-count-gt-MOST_DRAWN : goal.returns-then-count-gt-MOST_DRAWN
unfolding refusal_of first_no unless
returns-then-count-gt-MOST_DRAWN c =
    simp (← c.sizes_in_range.ensures, c.if-not-sizes_in_range.false, ← c.numbers_in_range.ensures, c.if-not-numbers_in_range.false, lt-leb _ _ c.if-count-gt-MOST_DRAWN.true)

pub returns : goal.returns
unfolding refusal_of first_no unless
returns c =
    simp (← c.sizes_in_range.ensures, c.if-not-sizes_in_range.false, ← c.numbers_in_range.ensures, c.if-not-numbers_in_range.false, le-leb _ _ c.if-count-gt-MOST_DRAWN.false)
