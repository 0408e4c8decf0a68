use borrow.Author.Tests.{eq-eqb, ne_eqb}
use Rattle.protocol.specs.Calls.{timeout}
use Rattle.controller.proofs.calls.timeout.Goals as goal

pub returns-then-not-takes_part : goal.returns-then-not-takes_part
unfolding timeout
returns-then-not-takes_part c = simp (← c.takes_part.ensures, c.if-not-takes_part.true, c.passed_over.ensures)

pub returns-then-phase-eq1 : goal.returns-then-phase-eq1
unfolding timeout
returns-then-phase-eq1 c = simp (← c.takes_part.ensures, c.if-not-takes_part.false, ← c.phase_in-phase.ensures, eq-eqb _ _ c.if-phase-eq1.true, c.first_timeout.ensures)

pub returns-then-phase-eq2 : goal.returns-then-phase-eq2
unfolding timeout
returns-then-phase-eq2 c = simp (← c.takes_part.ensures, c.if-not-takes_part.false, ← c.phase_in-phase.ensures, ne_eqb _ _ c.if-phase-eq1.false, eq-eqb _ _ c.if-phase-eq2.true, c.second_timeout.ensures)

pub returns : goal.returns
unfolding timeout
returns c = simp (← c.takes_part.ensures, c.if-not-takes_part.false, ← c.phase_in-phase.ensures, ne_eqb _ _ c.if-phase-eq1.false, ne_eqb _ _ c.if-phase-eq2.false, c.passed_over-2.ensures)
