use Rattle.protocol.specs.BallotRules.{prepare_arrives}
use Rattle.ballot_rules.proofs.acceptors.prepare_arrives.Goals as goal

pub returns-then-answers : goal.returns-then-answers
unfolding prepare_arrives
returns-then-answers c = simp (← c.answers.ensures, c.if-answers.true, c.give_promise.ensures)

pub returns : goal.returns
unfolding prepare_arrives
returns c = simp (← c.answers.ensures, c.if-answers.false, c.unanswered.ensures)
