use Rattle.cabinet_state.specs.Words.{help_in}
use Rattle.cabinet_state.proofs.reading.help_in.Goals as goal

pub returns : goal.returns
unfolding help_in
returns c = simp (← c.small.ensures, ← c.flag_of.ensures, ← c.set_in.ensures, c.word.ensures)
