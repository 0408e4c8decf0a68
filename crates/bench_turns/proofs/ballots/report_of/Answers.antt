use Rattle.bench_turns.proofs.ballots.report_of.Goals as goal

pub returns : goal.returns
returns c = c.nth.ensures
