use mathlib.Core.Path.{refl}
use Rattle.protocol.specs.Controllers.{propose}
use Rattle.controller_state.proofs.changes.propose.Goals as goal

pub returns : goal.returns
unfolding propose
returns c = refl
