-- `controller::addressed` of ballots meets its contract: the tests in the order of the definition, each passed but the last.
use mathlib.Core.Path.{◌≡◌}
use mathlib.Core.Bool.{Bool, true, ◌&&◌}
use borrow.Author.Tests.{eq-eqb, ne_eqb}
use Rattle.protocol.specs.BallotCalls.{ballot_addressed}
use Rattle.controller.proofs.ballots.addressed.Goals as goal

-- behind the first four tests, the last
fifth : (p q r s x y : Bool) → p ≡ true → q ≡ true → r ≡ true → s ≡ true → x ≡ y → x ≡ (p && q && r && s && y)
fifth p q r s x y e f g h k = rw (e, f, g, h) k

pub returns-then-m-me : goal.returns-then-m-me
unfolding ballot_addressed
returns-then-m-me c = simp (ne_eqb _ _ c.if-m-me.true)

pub returns-then-m-me-2 : goal.returns-then-m-me-2
unfolding ballot_addressed
returns-then-m-me-2 c = simp (eq-eqb _ _ c.if-m-me.false, ne_eqb _ _ c.if-m-me-2.true)

pub returns-then-m-me-3 : goal.returns-then-m-me-3
unfolding ballot_addressed
returns-then-m-me-3 c = simp (eq-eqb _ _ c.if-m-me.false, eq-eqb _ _ c.if-m-me-2.false, ne_eqb _ _ c.if-m-me-3.true)

pub returns-then-m-me-4 : goal.returns-then-m-me-4
unfolding ballot_addressed
returns-then-m-me-4 c =
    simp (eq-eqb _ _ c.if-m-me.false, eq-eqb _ _ c.if-m-me-2.false, eq-eqb _ _ c.if-m-me-3.false, ne_eqb _ _ c.if-m-me-4.true)

pub returns : goal.returns
unfolding ballot_addressed
returns c =
    fifth _ _ _ _ _ _ (eq-eqb _ _ c.if-m-me.false) (eq-eqb _ _ c.if-m-me-2.false) (eq-eqb _ _ c.if-m-me-3.false) (eq-eqb _ _ c.if-m-me-4.false) c.different_controllers.ensures
