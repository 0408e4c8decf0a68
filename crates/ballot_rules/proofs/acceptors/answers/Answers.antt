use borrow.Author.Tests.{le-leb, lt-leb}
use Rattle.ballot_rules.proofs.acceptors.answers.Goals as goal

pub returns-then-highest-b : goal.returns-then-highest-b
returns-then-highest-b c = simp (le-leb _ _ c.if-highest-b.true)

pub returns : goal.returns
returns c = simp (lt-leb _ _ c.if-highest-b.false)
