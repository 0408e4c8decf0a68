use Rattle.cabinet_turns.proofs.ballots.open_question.Goals as goal

pub returns : goal.returns
returns c = simp (← c.may_open_in.ensures, ← c.has_put.ensures, c.asked_to_open.ensures)
