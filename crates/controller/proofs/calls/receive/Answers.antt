-- `receive` meets its contract: behind the tests of identity, condition, address and vote set it is the rule's answer, tested.
use Rattle.protocol.specs.Calls.{receive}
use Rattle.controller.proofs.calls.receive.Goals as goal

pub returns-then-not-takes_part : goal.returns-then-not-takes_part
unfolding receive
returns-then-not-takes_part c = simp (← c.takes_part.ensures, c.if-not-takes_part.true, c.passed_over.ensures)

pub returns-then-not-addressed : goal.returns-then-not-addressed
unfolding receive
returns-then-not-addressed c = simp (← c.takes_part.ensures, c.if-not-takes_part.false, ← c.addressed.ensures, c.if-not-addressed.true, c.passed_over-then-not-addressed.ensures)

pub returns-then-not-suits : goal.returns-then-not-suits
unfolding receive
returns-then-not-suits c =
    simp (← c.takes_part.ensures, c.if-not-takes_part.false, ← c.addressed.ensures, c.if-not-addressed.false, ← c.suits.ensures, c.if-not-suits.true, c.passed_over-then-not-suits.ensures)

pub returns : goal.returns
unfolding receive
returns c =
    simp (← c.takes_part.ensures, c.if-not-takes_part.false, ← c.addressed.ensures, c.if-not-addressed.false, ← c.suits.ensures, c.if-not-suits.false, c.arrives.ensures, c.tested.ensures)
