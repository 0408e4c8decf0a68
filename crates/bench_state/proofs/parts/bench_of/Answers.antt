use Rattle.protocol.specs.Benches.{bench_of}
use Rattle.bench_state.proofs.parts.bench_of.Goals as goal

pub returns : goal.returns
unfolding bench_of
returns c = simp (c.shared_of.ensures, c.new_ballots.ensures, c.fresh_station.ensures)
