use Rattle.controller_rules.proofs.arrivals.answer_to_call.Goals as goal

pub returns-then-answers : goal.returns-then-answers
returns-then-answers c = simp (c.if-answers.true, c.insert.ensures)
