use Rattle.cabinet_turns.specs.Ballots.{opened}
use Rattle.cabinet_turns.proofs.ballots.opened.Goals as goal

pub returns : goal.returns
unfolding opened
returns c = simp (← c.tally_for.ensures, ← c.open-answer.ensures, c.opened_by.ensures)
