use Rattle.bench_turns.proofs.ballots.report_in.Goals as goal

pub returns-in-Carry : goal.returns-in-Carry
returns-in-Carry c = simp (c.in-Carry.is, c.report_of.ensures)
