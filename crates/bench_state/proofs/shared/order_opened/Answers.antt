use Rattle.protocol.specs.Steps.{order_opened}
use Rattle.bench_state.proofs.shared.order_opened.Goals as goal

pub returns : goal.returns
unfolding order_opened
returns c = simp (c.no_consensus-consensus.ensures, c.all_undecided-counts.ensures)
