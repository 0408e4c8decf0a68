use Rattle.protocol.specs.BallotRules.{counting}
use borrow.Author.Tests.{lt-ltb, le-ltb}
use Rattle.ballot_rules.proofs.owners.counting.Goals as goal

pub returns-then-t-last : goal.returns-then-t-last
unfolding counting
returns-then-t-last c = simp (← c.insert-from.ensures, lt-ltb _ _ c.if-t-last.true)

pub returns : goal.returns
unfolding counting
returns c = simp (← c.insert-from.ensures, le-ltb _ _ c.if-t-last.false)
