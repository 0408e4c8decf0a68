use Rattle.bench_turns.proofs.turns.first_turn.Goals as goal

pub returns : goal.returns
returns c = simp (c.acknowledge.ensures, c.station_after.ensures)
