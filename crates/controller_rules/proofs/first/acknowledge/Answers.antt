use Rattle.controller_rules.proofs.first.acknowledge.Goals as goal

pub returns : goal.returns
returns c = simp (← c.recipients-to.ensures, ← c.advance.ensures, ← c.acks_to.ensures, c.sending.ensures)
