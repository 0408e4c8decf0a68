use Rattle.bench_run.proofs.runs.ended.Goals as goal

pub returns : goal.returns
returns c = λ s. rw (c.open_gates.ensures, c.summary_of.ensures s)
