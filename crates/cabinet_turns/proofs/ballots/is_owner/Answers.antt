use Rattle.cabinet_turns.proofs.ballots.is_owner.Goals as goal

pub returns : goal.returns
returns c = simp c.owner.ensures
