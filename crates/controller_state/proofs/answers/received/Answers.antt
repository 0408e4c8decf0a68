use Rattle.controller_state.proofs.answers.received.Goals as goal

pub returns : goal.returns
returns c = simp c.reception_of.ensures
