use Rattle.protocol.specs.BallotCalls.{takes_part}
use Rattle.controller.proofs.ballots.takes_part.Goals as goal

pub returns-then-not-valid_identity : goal.returns-then-not-valid_identity
unfolding takes_part
returns-then-not-valid_identity c = simp (← c.valid_identity.ensures, c.if-not-valid_identity.true)

pub returns-then-own : goal.returns-then-own
unfolding takes_part
returns-then-own c = simp (← c.valid_identity.ensures, c.if-not-valid_identity.false, c.if-own.true, c.is_running.ensures)

pub returns : goal.returns
unfolding takes_part
returns c = simp (← c.valid_identity.ensures, c.if-not-valid_identity.false, c.if-own.false)
