use Rattle.bench_turns.proofs.turns.stop_turn.Goals as goal

pub returns : goal.returns
returns c = simp (c.cleared-next.ensures, c.becomes.ensures, c.answering.ensures)
