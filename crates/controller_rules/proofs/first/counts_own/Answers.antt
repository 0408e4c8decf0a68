use Rattle.controller_rules.proofs.first.counts_own.Goals as goal

pub returns-then-not-is_backup : goal.returns-then-not-is_backup
returns-then-not-is_backup c = simp (← c.is_backup.ensures, c.if-not-is_backup.true)

pub returns : goal.returns
returns c = simp (← c.is_backup.ensures, c.if-not-is_backup.false, c.has.ensures)
