use mathlib.Core.Path.{refl}
use Rattle.protocol.specs.Controllers.{await}
use Rattle.controller_state.proofs.changes.await_help.Goals as goal

pub returns : goal.returns
unfolding await
returns c = refl
