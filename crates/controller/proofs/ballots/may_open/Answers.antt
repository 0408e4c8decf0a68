use borrow.Author.Tests.{eq-eqb, ne_eqb}
use Rattle.protocol.specs.BallotCalls.{may_open_alone}
use Rattle.controller.proofs.ballots.may_open.Goals as goal

pub returns-then-not-is_ballot : goal.returns-then-not-is_ballot
unfolding may_open_alone
returns-then-not-is_ballot c = simp (← c.is_ballot.ensures, c.if-not-is_ballot.true)

pub returns-then-owner-me : goal.returns-then-owner-me
unfolding may_open_alone
returns-then-owner-me c = simp (← c.is_ballot.ensures, c.if-not-is_ballot.false, ← c.owner.ensures, ne_eqb _ _ c.if-owner-me.true)

pub returns-then-has : goal.returns-then-has
unfolding may_open_alone
returns-then-has c =
    simp (← c.is_ballot.ensures, c.if-not-is_ballot.false, ← c.owner.ensures, eq-eqb _ _ c.if-owner-me.false, ← c.has.ensures, c.if-has.true)

pub returns : goal.returns
unfolding may_open_alone
returns c =
    simp (← c.is_ballot.ensures, c.if-not-is_ballot.false, ← c.owner.ensures, eq-eqb _ _ c.if-owner-me.false, ← c.has.ensures, c.if-has.false)
