-- `model::routes::up_to_second_backup` meets its contract: from 32 on the set is every bit.
use mathlib.Core.Path.{◌∙◌, ap}
use native.Mathlib.Numerals.{add-one}
use Rattle.ground.specs.Mask.{up_to}
use Rattle.model.proofs.RouteSets.{past_bits}
use Rattle.model.proofs.routes.up_to_second_backup.Goals as goal

pub returns-then-f-ge255 : goal.returns-then-f-ge255
returns-then-f-ge255 c = c.up_to.ensures ∙ past_bits _ c.if-f-ge255.true

pub returns : goal.returns
returns c = c.up_to-2.ensures ∙ ap up_to (add-one _)
