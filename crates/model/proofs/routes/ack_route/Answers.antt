use borrow.Author.Tests.{eq-eqb, ne_eqb}
use Rattle.model.specs.Routes.{ack_route}
use Rattle.model.proofs.routes.ack_route.Goals as goal

pub returns-then-from-to : goal.returns-then-from-to
unfolding ack_route
returns-then-from-to c = simp (eq-eqb _ _ c.if-from-to.true)

pub returns-then-is_backup : goal.returns-then-is_backup
unfolding ack_route
returns-then-is_backup c = simp (ne_eqb _ _ c.if-from-to.false, ← c.is_backup.ensures, c.if-is_backup.true)

pub returns-then-is_second_backup : goal.returns-then-is_second_backup
unfolding ack_route
returns-then-is_second_backup c = simp (ne_eqb _ _ c.if-from-to.false, ← c.is_backup.ensures, c.if-is_backup.false, ← c.is_second_backup.ensures, c.if-is_second_backup.true, c.is_backup-then-is_second_backup.ensures)

pub returns-else-is_second_backup : goal.returns-else-is_second_backup
unfolding ack_route
returns-else-is_second_backup c = simp (ne_eqb _ _ c.if-from-to.false, ← c.is_backup.ensures, c.if-is_backup.false, ← c.is_second_backup.ensures, c.if-is_second_backup.false)
