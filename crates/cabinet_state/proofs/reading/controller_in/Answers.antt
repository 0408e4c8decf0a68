use Rattle.cabinet_state.specs.Words.{controller_in}
use Rattle.cabinet_state.proofs.reading.controller_in.Goals as goal

pub returns : goal.returns
unfolding controller_in
returns c = simp (← c.acks_in-acks.ensures, ← c.helped_in-helped.ensures, ← c.help_in-help.ensures, ← c.condition_in.ensures, ← c.set_in.ensures, ← c.small.ensures, ← c.outcome_of.ensures, ← c.word.ensures, c.word-2.ensures)
