use Rattle.protocol.specs.Rules.{passing_over}
use Rattle.controller_state.proofs.answers.passed_over.Goals as goal

pub returns : goal.returns
unfolding passing_over
returns c = simp c.nothing.ensures
