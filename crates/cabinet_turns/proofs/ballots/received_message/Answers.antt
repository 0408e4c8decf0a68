use Rattle.cabinet_turns.specs.Ballots.{received_telegram}
use Rattle.cabinet_turns.proofs.ballots.received_message.Goals as goal

pub returns : goal.returns
unfolding received_telegram
returns c = simp (← c.receive.ensures, c.answered.ensures)
