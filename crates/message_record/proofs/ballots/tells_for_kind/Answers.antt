use Rattle.message_record.specs.BallotMessages.{tells_for_kind}
use Rattle.message_record.proofs.ballots.tells_for_kind.Goals as goal

pub returns-in-Prepare : goal.returns-in-Prepare
unfolding tells_for_kind
returns-in-Prepare c = simp (c.in-Prepare.is, c.tells_nothing.ensures)

pub returns-in-Promise : goal.returns-in-Promise
unfolding tells_for_kind
returns-in-Promise c = simp (c.in-Promise.is, c.reports_last.ensures)

pub returns-in-Accept : goal.returns-in-Accept
unfolding tells_for_kind
returns-in-Accept c = simp (c.in-Accept.is, c.tells_word.ensures)

pub returns-in-Accepted : goal.returns-in-Accepted
unfolding tells_for_kind
returns-in-Accepted c = simp (c.in-Accepted.is, c.tells_word-in-Accepted.ensures)
