use Rattle.controller_rules.proofs.second.calls_after.Goals as goal

pub returns-in-Waits : goal.returns-in-Waits
returns-in-Waits c = simp (c.in-Waits.is, ← c.recipients.ensures, c.empty_set.ensures)
