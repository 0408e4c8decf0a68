use Rattle.bench_turns.proofs.ballots.rebuilt.Goals as goal

pub returns-in-Open : goal.returns-in-Open
returns-in-Open c = simp c.in-Open.is

pub returns-in-Carry : goal.returns-in-Carry
returns-in-Carry c = simp c.in-Carry.is
