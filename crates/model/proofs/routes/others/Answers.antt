-- `model::routes::others` meets its contract, by the law of sets cut to 1..n.
use mathlib.Core.Path.{◌∙◌}
use Rattle.ground.proofs.UpTo.{others_are}
use Rattle.model.specs.Routes.{others_of}
use Rattle.model.proofs.routes.others.Goals as goal

pub returns : goal.returns
unfolding others_of
returns c = c.remove.ensures ∙ rw c.up_to.ensures (others_are _ _ _)
