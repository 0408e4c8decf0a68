use Rattle.protocol.specs.Benches.{unsent_all}
use Rattle.controller_state.proofs.sends.unsent_all.Goals as goal

pub returns : goal.returns
unfolding unsent_all
returns c = simp c.empty_set.ensures
