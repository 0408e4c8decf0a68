use borrow.Author.Tests.{lt-ltb, le-ltb}
use Rattle.controller_rules.proofs.second.concluded.Goals as goal

pub returns-then-decides : goal.returns-then-decides
returns-then-decides c = simp (← c.decides.ensures, c.if-decides.true)

pub returns-then-c-gt0 : goal.returns-then-c-gt0
returns-then-c-gt0 c = simp (← c.decides.ensures, c.if-decides.false, lt-ltb _ _ c.if-c-gt0.true)

pub returns : goal.returns
returns c = simp (← c.decides.ensures, c.if-decides.false, le-ltb _ _ c.if-c-gt0.false)
