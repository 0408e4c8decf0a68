use Rattle.protocol.specs.Rules.{decides}
use Rattle.controller_rules.proofs.deciding.decides.Goals as goal

pub returns-then-not-backups_complete : goal.returns-then-not-backups_complete
unfolding decides
returns-then-not-backups_complete c = simp (← c.backups_complete.ensures, c.if-not-backups_complete.true)

pub returns-then-not-is_backup : goal.returns-then-not-is_backup
unfolding decides
returns-then-not-is_backup c = simp (← c.backups_complete.ensures, c.if-not-backups_complete.false, ← c.is_backup.ensures, c.if-not-is_backup.true)

pub returns : goal.returns
unfolding decides
returns c = simp (← c.backups_complete.ensures, c.if-not-backups_complete.false, ← c.is_backup.ensures, c.if-not-is_backup.false, c.second_knows.ensures)
