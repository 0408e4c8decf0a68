use Rattle.controller_rules.proofs.held.ack_contradicts.Goals as goal

pub returns-then-has : goal.returns-then-has
returns-then-has c = simp (← c.has.ensures, c.if-has.true, ← c.set_of.ensures, c.contradicts.ensures)

pub returns : goal.returns
returns c = simp (← c.has.ensures, c.if-has.false)
