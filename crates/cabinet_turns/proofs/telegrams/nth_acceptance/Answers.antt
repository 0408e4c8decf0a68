use Rattle.cabinet_turns.specs.Telegrams.{acceptance_sent}
use Rattle.cabinet_turns.proofs.telegrams.nth_acceptance.Goals as goal

pub returns-then-no_acceptance_sent : goal.returns-then-no_acceptance_sent
unfolding acceptance_sent
returns-then-no_acceptance_sent c = simp (← c.no_acceptance_sent.ensures, c.if-no_acceptance_sent.true)

pub returns : goal.returns
unfolding acceptance_sent
returns c = simp (← c.no_acceptance_sent.ensures, c.if-no_acceptance_sent.false, ← c.acceptance_message.ensures, c.nth_of_one.ensures)
