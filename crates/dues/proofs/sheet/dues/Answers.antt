-- `dues::sheet::dues` meets its contract: each way through it is one reply to the questions.
use borrow.Author.Tests.{le-leb, lt-leb, eq-eqb, ne_eqb, not-true, not-false}
use Rattle.model.specs.Questions.{first_no, unless}
use Rattle.dues.specs.Sheet.{questions, dues_for}
use Rattle.dues.specs.SumLaws.{dues-of}
use Rattle.dues.proofs.sheet.dues.Goals as goal

pub returns-then-s-ne0 : goal.returns-then-s-ne0
unfolding dues_for questions first_no unless
returns-then-s-ne0 c = dues-of _ _ (simp (ne_eqb _ _ c.if-s-ne0.true))

pub returns-then-not-checks : goal.returns-then-not-checks
unfolding dues_for questions first_no unless
returns-then-not-checks c =
    dues-of _ _ (simp (eq-eqb _ _ c.if-s-ne0.false, ← c.check_all-checks.ensures.listed_value, not-true c.check_all-checks.result.listed c.if-not-checks.true))

pub returns-then-s-gt-MOST : goal.returns-then-s-gt-MOST
unfolding dues_for questions first_no unless
returns-then-s-gt-MOST c =
    dues-of _ _ (simp (eq-eqb _ _ c.if-s-ne0.false, ← c.check_all-checks.ensures.listed_value, not-false c.check_all-checks.result.listed c.if-not-checks.false, lt-leb _ _ c.if-s-gt-MOST.true))

pub returns-then-not-checks-2 : goal.returns-then-not-checks-2
unfolding dues_for questions first_no unless
returns-then-not-checks-2 c =
    dues-of _ _ (simp (eq-eqb _ _ c.if-s-ne0.false, ← c.check_all-checks.ensures.listed_value, not-false c.check_all-checks.result.listed c.if-not-checks.false, le-leb _ _ c.if-s-gt-MOST.false, ← c.check_all-checks.ensures.in_range_value, not-true c.check_all-checks.result.in_range c.if-not-checks-2.true))

pub returns : goal.returns
unfolding dues_for questions first_no unless
returns c =
    dues-of _ _ (simp (eq-eqb _ _ c.if-s-ne0.false, ← c.check_all-checks.ensures.listed_value, not-false c.check_all-checks.result.listed c.if-not-checks.false, le-leb _ _ c.if-s-gt-MOST.false, ← c.check_all-checks.ensures.in_range_value, not-false c.check_all-checks.result.in_range c.if-not-checks-2.false, c.totals.ensures))
