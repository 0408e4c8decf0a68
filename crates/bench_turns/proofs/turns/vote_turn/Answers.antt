use Rattle.bench_turns.proofs.turns.vote_turn.Goals as goal

pub returns : goal.returns
returns c = simp (c.vote_arrives.ensures, c.station_after.ensures)
