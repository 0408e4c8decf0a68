use Rattle.bench_turns.specs.BallotTurns.{ballot_answer}
use Rattle.bench_turns.proofs.ballots.ballot_answer.Goals as goal

pub returns-in-Open : goal.returns-in-Open
unfolding ballot_answer
returns-in-Open c = simp (c.in-Open.is, c.open_ballot.ensures)

pub returns-in-Carry : goal.returns-in-Carry
unfolding ballot_answer
returns-in-Carry c = simp (c.in-Carry.is, c.report_of-last.ensures, c.carried.ensures)
