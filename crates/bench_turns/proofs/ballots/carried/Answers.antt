use Rattle.bench_turns.specs.BallotTurns.{carried_answer}
use Rattle.bench_turns.proofs.ballots.carried.Goals as goal

pub returns-in-Prepare : goal.returns-in-Prepare
unfolding carried_answer
returns-in-Prepare c = simp (c.in-Prepare.is, c.prepare_arrives.ensures)

pub returns-in-Promise : goal.returns-in-Promise
unfolding carried_answer
returns-in-Promise c = simp (c.in-Promise.is, c.promise_arrives.ensures)

pub returns-in-Accept : goal.returns-in-Accept
unfolding carried_answer
returns-in-Accept c = simp (c.in-Accept.is, c.accept_arrives.ensures)

pub returns-in-Accepted : goal.returns-in-Accepted
unfolding carried_answer
returns-in-Accepted c = simp (c.in-Accepted.is, c.unanswered.ensures)
