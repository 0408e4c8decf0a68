use mathlib.Core.Path.{refl}
use Rattle.protocol.specs.Controllers.{aim}
use Rattle.controller_state.proofs.changes.aim.Goals as goal

pub returns : goal.returns
unfolding aim
returns c = refl
