use Rattle.controller_rules.proofs.deciding.held_complete.Goals as goal

pub returns-then-has : goal.returns-then-has
returns-then-has c = simp (← c.has.ensures, c.if-has.true, c.complete.ensures)

pub returns : goal.returns
returns c = simp (← c.has.ensures, c.if-has.false)
