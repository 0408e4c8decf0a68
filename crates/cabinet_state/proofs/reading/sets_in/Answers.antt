-- The first j vote sets are those that stand in their two columns of words: so at the end all are (`Filled`).
use mathlib.Core.Path.{refl}
use native.Mathlib.Omega.{arith}
use Rattle.ground.specs.Limit.{limit}
use Rattle.cabinet_state.specs.Words.{sets_in}
use Rattle.cabinet_state.specs.FillLaws.{none_filled, one_filled, all_filled}
use Rattle.cabinet_state.proofs.reading.sets_in.Goals as goal

pub loop-j-init : goal.loop-j-init
loop-j-init c = none_filled _ limit _ refl

pub loop-j-preserved : goal.loop-j-preserved
loop-j-preserved c = one_filled _ limit _ _ _ (omega arith) c.loop-j.invariant (simp (← c.word.ensures, c.word-in-loop-j.ensures))

pub returns : goal.returns
unfolding sets_in
returns c = all_filled _ limit _ _ (omega arith) c.loop-j.invariant
