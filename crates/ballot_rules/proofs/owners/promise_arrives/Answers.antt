use Rattle.protocol.specs.BallotRules.{promise_arrives}
use Rattle.ballot_rules.proofs.owners.promise_arrives.Goals as goal

pub returns-then-counts : goal.returns-then-counts
unfolding promise_arrives
returns-then-counts c = simp (← c.counts.ensures, c.if-counts.true, ← c.counting-counted.ensures, c.put_if_majority.ensures)

pub returns : goal.returns
unfolding promise_arrives
returns c = simp (← c.counts.ensures, c.if-counts.false, c.unanswered.ensures)
