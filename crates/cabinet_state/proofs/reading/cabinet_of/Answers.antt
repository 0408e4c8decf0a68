use Rattle.cabinet_state.specs.Words.{cabinet_of}
use Rattle.cabinet_state.proofs.reading.cabinet_of.Goals as goal

pub returns : goal.returns
unfolding cabinet_of
returns c = simp (← c.identity_in-me.ensures, ← c.small.ensures, ← c.flag_of-own.ensures, ← c.controller_in-controller.ensures, ← c.sent_in-sent.ensures, c.ballots_in-ballots.ensures)
