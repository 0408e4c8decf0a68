use Rattle.controller_rules.proofs.second.position_after.Goals as goal

pub returns-in-Decides : goal.returns-in-Decides
returns-in-Decides c = simp (c.in-Decides.is, c.landing.ensures)
