use lib.ListN.{length-map}
use Rattle.protocol.specs.BallotCalls.{ballot_to_others}
use Rattle.controller.specs.BallotParts.{proposed}
use Rattle.controller.proofs.ballot_sequence.count_proposed.Goals as goal

pub returns-then-x : goal.returns-then-x
unfolding proposed ballot_to_others
returns-then-x c = simp (c.if-x.true, length-map, c.count_others.ensures)

pub returns : goal.returns
unfolding proposed
returns c = simp c.if-x.false
