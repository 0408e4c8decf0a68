use Rattle.bench_turns.proofs.turns.second_turn.Goals as goal

pub returns : goal.returns
returns c = simp (c.second_timeout.ensures, c.answering.ensures)
