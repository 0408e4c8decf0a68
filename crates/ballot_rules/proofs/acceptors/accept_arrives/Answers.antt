use Rattle.protocol.specs.BallotRules.{accept_arrives}
use Rattle.ballot_rules.proofs.acceptors.accept_arrives.Goals as goal

pub returns-then-answers : goal.returns-then-answers
unfolding accept_arrives
returns-then-answers c = simp (← c.answers.ensures, c.if-answers.true, c.accept.ensures)

pub returns : goal.returns
unfolding accept_arrives
returns c = simp (← c.answers.ensures, c.if-answers.false, c.unanswered.ensures)
