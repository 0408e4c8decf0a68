use mathlib.Core.Path.{refl}
use Rattle.cabinet_state.specs.Words.{ballots_from}
use Rattle.cabinet_state.proofs.writing.ballots_from.Goals as goal

pub returns : goal.returns
unfolding ballots_from
returns c = refl
