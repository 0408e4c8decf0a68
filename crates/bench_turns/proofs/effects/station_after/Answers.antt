use Rattle.protocol.specs.Steps.{station_after}
use Rattle.bench_turns.proofs.effects.station_after.Goals as goal

pub returns : goal.returns
unfolding station_after
returns c = simp c.sent_after-sent.ensures
