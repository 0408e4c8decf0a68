use Rattle.cabinet_turns.specs.Telegrams.{promise_message}
use Rattle.cabinet_turns.proofs.telegrams.promise_message.Goals as goal

pub returns : goal.returns
unfolding promise_message
returns c = simp (← c.owner.ensures, c.ballot_to.ensures)
