use Rattle.bench_turns.proofs.turns.outcome_saved.Goals as goal

pub returns-in-Some : goal.returns-in-Some
returns-in-Some c = simp (c.in-Some.is, c.outcome_kept.ensures)
