use mathlib.Core.Path.{refl}
use Rattle.cabinet_turns.specs.Ballots.{with_ballots}
use Rattle.cabinet_turns.proofs.ballots.with_ballots.Goals as goal

pub returns : goal.returns
unfolding with_ballots
returns c = refl
