use Rattle.controller.proofs.ballot_sequence.ballot_to.Goals as goal

pub returns : goal.returns
returns c = simp c.empty_set.ensures
