use Rattle.bench_turns.proofs.turns.settled_turn.Goals as goal

pub returns : goal.returns
returns c = simp (c.becomes.ensures, c.propose_if_sufficient.ensures, c.answering.ensures)
