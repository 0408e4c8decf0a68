use Rattle.cabinet_turns.specs.Ballots.{received_ballot}
use Rattle.cabinet_turns.proofs.ballots.received_ballot.Goals as goal

pub returns : goal.returns
unfolding received_ballot
returns c = simp (← c.tally_for-t.ensures, ← c.receive_ballot-answer.ensures, c.answered_in.ensures)
