use Rattle.protocol.specs.Rules.{contradicted}
use Rattle.controller_state.proofs.answers.contradicted.Goals as goal

pub returns : goal.returns
unfolding contradicted
returns c = simp c.nothing.ensures
