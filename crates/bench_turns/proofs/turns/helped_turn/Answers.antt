use Rattle.bench_turns.proofs.turns.helped_turn.Goals as goal

pub returns : goal.returns
returns c = simp (c.helped_arrives.ensures, c.answering.ensures)
