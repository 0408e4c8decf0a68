use Rattle.protocol.specs.BallotSteps.{was_sent_in}
use Rattle.ballot_rules.proofs.rows.was_sent_in.Goals as goal

pub returns-in-Prepare : goal.returns-in-Prepare
unfolding was_sent_in
returns-in-Prepare c = simp (c.in-Prepare.is, c.is_owner_in.ensures)

pub returns-in-Promise : goal.returns-in-Promise
unfolding was_sent_in
returns-in-Promise c = simp (c.in-Promise.is, c.is_owner_in-in-Promise.ensures)

pub returns-in-Accept : goal.returns-in-Accept
unfolding was_sent_in
returns-in-Accept c = simp (c.in-Accept.is, c.was_put.ensures)

pub returns-in-Accepted : goal.returns-in-Accepted
unfolding was_sent_in
returns-in-Accepted c = simp (c.in-Accepted.is, c.is_owner_in-in-Accepted.ensures)
