-- `model::routes::help_recipients` meets its contract: those above f send to all others of them.
use mathlib.Core.Path.{◌∙◌}
use borrow.Author.Tests.{lt-ltb, le-ltb}
use Rattle.model.proofs.RouteSets.{helps, no-helps}
use Rattle.model.proofs.routes.help_recipients.Goals as goal

pub returns-then-f-from : goal.returns-then-f-from
returns-then-f-from c = c.others.ensures ∙ rw (c.up_to.ensures, c.up_to-then-f-from.ensures) (helps _ _ _ (lt-ltb _ _ c.if-f-from.true))

pub returns : goal.returns
returns c = no-helps _ _ _ (le-ltb _ _ c.if-f-from.false)
