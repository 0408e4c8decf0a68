use Rattle.protocol.specs.Rules.{proposing}
use Rattle.controller_state.proofs.answers.proposing.Goals as goal

pub returns : goal.returns
unfolding proposing
returns c = simp c.propose.ensures
