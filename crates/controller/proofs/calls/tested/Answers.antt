use Rattle.protocol.specs.Calls.{tested}
use Rattle.controller.proofs.calls.tested.Goals as goal

pub returns-then-not-is_taken : goal.returns-then-not-is_taken
unfolding tested
returns-then-not-is_taken c = simp (← c.is_taken.ensures, c.if-not-is_taken.true)

pub returns-then-contradicts_held : goal.returns-then-contradicts_held
unfolding tested
returns-then-contradicts_held c = simp (← c.is_taken.ensures, c.if-not-is_taken.false, ← c.contradicts_held.ensures, c.if-contradicts_held.true, c.contradicted.ensures)

pub returns : goal.returns
unfolding tested
returns c = simp (← c.is_taken.ensures, c.if-not-is_taken.false, ← c.contradicts_held.ensures, c.if-contradicts_held.false)
