-- `model::routes::vote_recipients` meets its contract: both ways lead to all others of one set.
use mathlib.Core.Path.{sym, ◌∙◌}
use Rattle.model.proofs.RouteSets.{backup-votes, other-votes}
use Rattle.model.proofs.routes.vote_recipients.Goals as goal

pub returns-then-is_backup : goal.returns-then-is_backup
returns-then-is_backup c = c.others.ensures ∙ rw c.up_to_second_backup.ensures (backup-votes _ _ _ (sym c.is_backup.ensures ∙ c.if-is_backup.true))

pub returns : goal.returns
returns c = c.others-2.ensures ∙ rw c.up_to.ensures (other-votes _ _ _ (sym c.is_backup.ensures ∙ c.if-is_backup.false))
