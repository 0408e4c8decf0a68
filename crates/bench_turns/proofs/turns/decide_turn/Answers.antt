use Rattle.bench_turns.proofs.turns.decide_turn.Goals as goal

pub returns : goal.returns
returns c = simp (c.decided_as.ensures, c.word_of.ensures, c.conclude.ensures, c.becomes.ensures, c.answering.ensures)
