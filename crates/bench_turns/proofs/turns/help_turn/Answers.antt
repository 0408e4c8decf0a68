use Rattle.bench_turns.proofs.turns.help_turn.Goals as goal

pub returns : goal.returns
returns c = simp (c.help_arrives.ensures, c.station_after.ensures)
