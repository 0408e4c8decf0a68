use Rattle.ballot_rules.proofs.rows.reports.Goals as goal

pub returns-then-given : goal.returns-then-given
returns-then-given c = simp (c.if-given.true, c.put.ensures)

pub returns : goal.returns
returns c = simp c.if-given.false
