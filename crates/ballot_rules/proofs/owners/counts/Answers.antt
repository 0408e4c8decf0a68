use Rattle.ballot_rules.proofs.owners.counts.Goals as goal

pub returns-then-is_none : goal.returns-then-is_none
returns-then-is_none c = simp (← c.is_none.ensures, c.if-is_none.true, c.has.ensures)
