use Rattle.cabinet_turns.specs.Ballots.{may_open}
use Rattle.cabinet_turns.proofs.ballots.may_open_in.Goals as goal

pub returns : goal.returns
unfolding may_open
returns c = simp (← c.tally_for.ensures, c.may_open.ensures)
