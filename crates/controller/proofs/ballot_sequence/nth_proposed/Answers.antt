use Rattle.controller.specs.BallotParts.{proposed}
use Rattle.controller.proofs.ballot_sequence.nth_proposed.Goals as goal

pub returns-then-x : goal.returns-then-x
unfolding proposed
returns-then-x c = simp (c.if-x.true, c.nth_to_others.ensures)

pub returns : goal.returns
unfolding proposed
returns c = simp c.if-x.false
