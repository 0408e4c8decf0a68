use Rattle.controller.proofs.BallotSequence.{nth_only, nth-none}
use Rattle.controller.proofs.ballot_sequence.nth_of_one.Goals as goal

pub returns-then-k-eq0 : goal.returns-then-k-eq0
returns-then-k-eq0 c = nth_only _ _ c.if-k-eq0.true

pub returns : goal.returns
returns c = nth-none _ _ c.if-k-eq0.false
