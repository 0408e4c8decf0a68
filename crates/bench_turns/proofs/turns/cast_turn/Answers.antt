use Rattle.bench_turns.proofs.turns.cast_turn.Goals as goal

pub returns : goal.returns
returns c = simp (c.vote_rule.ensures, c.station_after.ensures)
