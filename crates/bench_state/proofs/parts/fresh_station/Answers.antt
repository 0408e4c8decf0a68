use Rattle.protocol.specs.Benches.{fresh_station}
use Rattle.bench_state.proofs.parts.fresh_station.Goals as goal

pub returns : goal.returns
unfolding fresh_station
returns c = simp (c.fresh.ensures, c.unsent_all.ensures)
