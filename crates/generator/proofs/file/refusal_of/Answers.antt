use borrow.Author.Tests.{le-leb, lt-leb, eq-eqb, ne_eqb}
use Rattle.model.specs.Questions.{first_no, unless}
use Rattle.generator.specs.File.{refusal_of}
use Rattle.generator.proofs.file.refusal_of.Goals as goal

pub returns-then-not-sizes_in_range : goal.returns-then-not-sizes_in_range
unfolding refusal_of first_no unless
returns-then-not-sizes_in_range c = simp (← c.sizes_in_range.ensures, c.if-not-sizes_in_range.true)

pub returns-then-start-eq0 : goal.returns-then-start-eq0
unfolding refusal_of first_no unless
returns-then-start-eq0 c = simp (← c.sizes_in_range.ensures, c.if-not-sizes_in_range.false, eq-eqb _ _ c.if-start-eq0.true)

pub returns-then-count-gt-MOST_DRAWN : goal.returns-then-count-gt-MOST_DRAWN
unfolding refusal_of first_no unless
returns-then-count-gt-MOST_DRAWN c = simp (← c.sizes_in_range.ensures, c.if-not-sizes_in_range.false, ne_eqb _ _ c.if-start-eq0.false, lt-leb _ _ c.if-count-gt-MOST_DRAWN.true)

pub returns : goal.returns
unfolding refusal_of first_no unless
returns c = simp (← c.sizes_in_range.ensures, c.if-not-sizes_in_range.false, ne_eqb _ _ c.if-start-eq0.false, le-leb _ _ c.if-count-gt-MOST_DRAWN.false)
