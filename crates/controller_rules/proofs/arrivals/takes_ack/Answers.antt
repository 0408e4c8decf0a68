use Rattle.controller_rules.proofs.arrivals.takes_ack.Goals as goal

pub returns-then-has : goal.returns-then-has
returns-then-has c = simp (← c.has.ensures, c.if-has.true)

pub returns : goal.returns
returns c = simp (← c.has.ensures, c.if-has.false, c.keeps_acks.ensures)
