use lib.ListN.{length-map}
use borrow.Author.Tests.{eq-eqb, ne_eqb}
use Rattle.protocol.specs.BallotCalls.{ballot_to_others, promise_sent}
use Rattle.controller.specs.BallotParts.{promised}
use Rattle.controller.proofs.ballot_sequence.count_promised.Goals as goal

pub returns-then-owner-me : goal.returns-then-owner-me
unfolding promised promise_sent ballot_to_others
returns-then-owner-me c = simp (c.if-x.true, ← c.owner.ensures, eq-eqb _ _ c.if-owner-me.true, length-map, c.count_others.ensures)

pub returns-then-x : goal.returns-then-x
unfolding promised promise_sent
returns-then-x c = simp (c.if-x.true, ← c.owner.ensures, ne_eqb _ _ c.if-owner-me.false)

pub returns : goal.returns
unfolding promised
returns c = simp c.if-x.false
