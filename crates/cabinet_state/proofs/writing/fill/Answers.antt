-- The first k words of the buffer are the state's, with the check word last, and its length stays (`Filled`).
use mathlib.Core.Path.{sym, ◌∙◌}
use native.Mathlib.Omega.{arith}
use Rattle.cabinet_state.specs.Words.{state_words}
use Rattle.cabinet_state.specs.FillLaws.{none_filled, one_filled, all_filled}
use Rattle.cabinet_state.proofs.writing.fill.Goals as goal

pub loop-k-init : goal.loop-k-init
loop-k-init c = none_filled _ state_words _ c.requires

pub bounds-out-k : goal.bounds-out-k
bounds-out-k c = let h = c.loop-k.invariant.size in omega (arith, h)

pub loop-k-preserved : goal.loop-k-preserved
loop-k-preserved c = one_filled _ state_words _ _ _ (omega arith) c.loop-k.invariant c.with_check.ensures

pub shape_of-out : goal.shape_of-out
shape_of-out c = c.loop-k.invariant.size ∙ sym c.requires

pub returns : goal.returns
returns c = all_filled _ state_words _ _ (omega arith) c.loop-k.invariant
