use Rattle.cabinet_turns.specs.Telegrams.{acceptance_message}
use Rattle.cabinet_turns.proofs.telegrams.acceptance_message.Goals as goal

pub returns : goal.returns
unfolding acceptance_message
returns c = simp (← c.owner.ensures, c.ballot_to.ensures)
