use Rattle.protocol.specs.Calls.{contradicts_held}
use Rattle.controller_rules.proofs.held.contradicts_held.Goals as goal

pub returns-then-contradicts : goal.returns-then-contradicts
unfolding contradicts_held
returns-then-contradicts c = simp (← c.contradicts.ensures, c.if-contradicts.true)

pub returns-then-contradicts-2 : goal.returns-then-contradicts-2
unfolding contradicts_held
returns-then-contradicts-2 c = simp (← c.contradicts.ensures, c.if-contradicts.false, ← c.contradicts-2.ensures, c.if-contradicts-2.true)

pub returns : goal.returns
unfolding contradicts_held
returns c = simp (← c.contradicts.ensures, c.if-contradicts.false, ← c.contradicts-2.ensures, c.if-contradicts-2.false, c.any_ack_contradicts.ensures)
