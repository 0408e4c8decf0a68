-- `model::routes::ack_recipients` meets its contract: each way leads to all others of one set, or to nobody.
use mathlib.Core.Path.{sym, ◌∙◌}
use Rattle.model.proofs.RouteSets.{backup-acks, second-acks, no-acks}
use Rattle.model.proofs.routes.ack_recipients.Goals as goal

pub returns-then-is_backup : goal.returns-then-is_backup
returns-then-is_backup c = c.others.ensures ∙ rw c.up_to.ensures (backup-acks _ _ _ (sym c.is_backup.ensures ∙ c.if-is_backup.true))

pub returns-then-is_second_backup : goal.returns-then-is_second_backup
returns-then-is_second_backup c = c.others-then-is_second_backup.ensures ∙ rw c.up_to-then-is_second_backup.ensures (second-acks _ _ _ (sym c.is_backup.ensures ∙ c.if-is_backup.false) (sym c.is_second_backup.ensures ∙ c.if-is_second_backup.true))

pub returns : goal.returns
returns c = no-acks _ _ _ (sym c.is_backup.ensures ∙ c.if-is_backup.false) (sym c.is_second_backup.ensures ∙ c.if-is_second_backup.false)
