use Rattle.bench_run.proofs.runs.locked.Goals as goal

pub returns : goal.returns
returns c = simp c.all_undecided-counts.ensures
