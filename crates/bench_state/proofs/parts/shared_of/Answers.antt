use Rattle.protocol.specs.Benches.{bench_of}
use Rattle.bench_state.proofs.parts.shared_of.Goals as goal

pub returns : goal.returns
unfolding bench_of
returns c = simp (c.no_consensus-consensus.ensures, c.all_undecided.ensures)
