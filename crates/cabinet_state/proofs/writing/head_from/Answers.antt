use mathlib.Core.Path.{refl}
use Rattle.cabinet_state.specs.Words.{head_from}
use Rattle.cabinet_state.proofs.writing.head_from.Goals as goal

pub returns : goal.returns
unfolding head_from
returns c = refl
