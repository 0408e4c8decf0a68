use Rattle.bench_turns.proofs.ballots.chosen_at.Goals as goal

pub returns : goal.returns
returns c = c.chosen_in.ensures
