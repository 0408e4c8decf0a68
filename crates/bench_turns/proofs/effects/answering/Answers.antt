use Rattle.protocol.specs.Steps.{answering}
use Rattle.bench_turns.proofs.effects.answering.Goals as goal

pub returns : goal.returns
unfolding answering
returns c = simp (c.counts_after-counts.ensures, c.proposed_to.ensures, c.station_after-station.ensures)
