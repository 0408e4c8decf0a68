use Rattle.bench_turns.proofs.turns.restore_turn.Goals as goal

pub returns : goal.returns
returns c = simp (c.outcome_saved-outcome.ensures, c.cleared-next.ensures, c.becomes.ensures, c.answering.ensures)
