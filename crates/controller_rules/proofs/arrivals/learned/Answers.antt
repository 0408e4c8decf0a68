use Rattle.controller_rules.proofs.arrivals.learned.Goals as goal

pub returns-then-takes : goal.returns-then-takes
returns-then-takes c = simp (c.if-takes.true, ← c.join.ensures, c.agreed_or.ensures)
