use Rattle.cabinet_turns.specs.Ballots.{received_telegram}
use Rattle.cabinet_turns.proofs.ballots.received_telegram.Goals as goal

pub returns-in-Plain : goal.returns-in-Plain
unfolding received_telegram
returns-in-Plain c = simp (c.in-Plain.is, c.received_message.ensures)

pub returns-in-OfBallot : goal.returns-in-OfBallot
unfolding received_telegram
returns-in-OfBallot c = simp (c.in-OfBallot.is, c.received_ballot.ensures)
