use borrow.Author.Tests.{eq-eqb, ne_eqb}
use Rattle.model.specs.Routes.{vote_route}
use Rattle.model.proofs.routes.vote_route.Goals as goal

pub returns-then-from-to : goal.returns-then-from-to
unfolding vote_route
returns-then-from-to c = simp (eq-eqb _ _ c.if-from-to.true)

pub returns-then-is_backup : goal.returns-then-is_backup
unfolding vote_route
returns-then-is_backup c = simp (ne_eqb _ _ c.if-from-to.false, ← c.is_backup.ensures, c.if-is_backup.true)

pub returns-then-is_backup-2 : goal.returns-then-is_backup-2
unfolding vote_route
returns-then-is_backup-2 c = simp (ne_eqb _ _ c.if-from-to.false, ← c.is_backup.ensures, c.if-is_backup.false, ← c.is_backup-2.ensures, c.if-is_backup-2.true, c.is_second_backup.ensures)

pub returns-else-is_backup-2 : goal.returns-else-is_backup-2
unfolding vote_route
returns-else-is_backup-2 c = simp (ne_eqb _ _ c.if-from-to.false, ← c.is_backup.ensures, c.if-is_backup.false, ← c.is_backup-2.ensures, c.if-is_backup-2.false)
