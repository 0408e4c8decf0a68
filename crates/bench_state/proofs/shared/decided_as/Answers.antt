use Rattle.protocol.specs.Steps.{decided_as}
use Rattle.bench_state.proofs.shared.decided_as.Goals as goal

pub returns : goal.returns
unfolding decided_as
returns c = simp c.word_of-decision.ensures
