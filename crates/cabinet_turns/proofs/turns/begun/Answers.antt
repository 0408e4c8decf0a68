use Rattle.cabinet_turns.specs.Turns.{begun}
use Rattle.cabinet_turns.proofs.turns.begun.Goals as goal

pub returns : goal.returns
unfolding begun
returns c = simp (← c.begun_controller-controller.ensures, ← c.unsent_all-sent.ensures, ← c.no_ballots-ballots.ensures, c.flag_of.ensures)
