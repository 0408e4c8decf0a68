use mathlib.Core.Path.{refl}
use Rattle.cabinet_turns.specs.Telegrams.{sends_of}
use Rattle.cabinet_turns.proofs.telegrams.sends_of.Goals as goal

pub returns : goal.returns
unfolding sends_of
returns c = refl
