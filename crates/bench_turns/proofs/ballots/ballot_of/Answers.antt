use Rattle.bench_turns.proofs.ballots.ballot_of.Goals as goal

pub returns-in-Carry : goal.returns-in-Carry
returns-in-Carry c = simp c.in-Carry.is
