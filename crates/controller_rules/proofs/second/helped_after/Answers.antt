use Rattle.controller_rules.proofs.second.helped_after.Goals as goal

pub returns-in-Waits : goal.returns-in-Waits
returns-in-Waits c = simp (c.in-Waits.is, ← c.join.ensures, ← c.agreed_or.ensures, ← c.insert.ensures, c.bump.ensures)
