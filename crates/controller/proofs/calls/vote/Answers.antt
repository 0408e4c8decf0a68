use borrow.Author.Tests.{eq-eqb, ne_eqb}
use Rattle.protocol.specs.Calls.{vote}
use Rattle.controller.proofs.calls.vote.Goals as goal

pub returns-then-not-takes_part : goal.returns-then-not-takes_part
unfolding vote
returns-then-not-takes_part c = simp (← c.takes_part.ensures, c.if-not-takes_part.true, c.passed_over.ensures)

pub returns-then-phase_in-ne0 : goal.returns-then-phase_in-ne0
unfolding vote
returns-then-phase_in-ne0 c = simp (← c.takes_part.ensures, c.if-not-takes_part.false, ← c.phase_in.ensures, ne_eqb _ _ c.if-phase_in-ne0.true, c.passed_over-then-phase_in-ne0.ensures)

pub returns : goal.returns
unfolding vote
returns c =
    simp (← c.takes_part.ensures, c.if-not-takes_part.false, ← c.phase_in.ensures, eq-eqb _ _ c.if-phase_in-ne0.false, ← c.single.ensures, ← c.drop_contradicting-held.ensures, c.vote_rule.ensures)
