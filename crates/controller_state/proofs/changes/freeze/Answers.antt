use mathlib.Core.Path.{refl}
use Rattle.protocol.specs.Controllers.{freeze}
use Rattle.controller_state.proofs.changes.freeze.Goals as goal

pub returns : goal.returns
unfolding freeze
returns c = refl
