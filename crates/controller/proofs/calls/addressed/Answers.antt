-- `controller::addressed` meets its contract: the tests in the order of `addressed`, each passed but the last.
use borrow.Author.Tests.{eq-eqb, ne_eqb}
use Rattle.protocol.specs.Calls.{addressed}
use Rattle.controller.proofs.calls.addressed.Goals as goal

pub returns-then-m-me : goal.returns-then-m-me
unfolding addressed
returns-then-m-me c = simp (ne_eqb _ _ c.if-m-me.true)

pub returns-then-m-me-2 : goal.returns-then-m-me-2
unfolding addressed
returns-then-m-me-2 c = simp (eq-eqb _ _ c.if-m-me.false, ne_eqb _ _ c.if-m-me-2.true)

pub returns-then-m-me-3 : goal.returns-then-m-me-3
unfolding addressed
returns-then-m-me-3 c = simp (eq-eqb _ _ c.if-m-me.false, eq-eqb _ _ c.if-m-me-2.false, ne_eqb _ _ c.if-m-me-3.true)

pub returns-then-m-me-4 : goal.returns-then-m-me-4
unfolding addressed
returns-then-m-me-4 c =
    simp (eq-eqb _ _ c.if-m-me.false, eq-eqb _ _ c.if-m-me-2.false, eq-eqb _ _ c.if-m-me-3.false, ne_eqb _ _ c.if-m-me-4.true)

pub returns-then-not-is_controller : goal.returns-then-not-is_controller
unfolding addressed
returns-then-not-is_controller c =
    simp (eq-eqb _ _ c.if-m-me.false, eq-eqb _ _ c.if-m-me-2.false, eq-eqb _ _ c.if-m-me-3.false, eq-eqb _ _ c.if-m-me-4.false, ← c.is_controller.ensures, c.if-not-is_controller.true)

pub returns : goal.returns
unfolding addressed
returns c =
    simp (eq-eqb _ _ c.if-m-me.false, eq-eqb _ _ c.if-m-me-2.false, eq-eqb _ _ c.if-m-me-3.false, eq-eqb _ _ c.if-m-me-4.false, ← c.is_controller.ensures, c.if-not-is_controller.false, c.route.ensures)
