use Rattle.controller_rules.proofs.arrivals.called.Goals as goal

pub returns-then-takes : goal.returns-then-takes
returns-then-takes c = simp (c.if-takes.true, c.insert.ensures)
