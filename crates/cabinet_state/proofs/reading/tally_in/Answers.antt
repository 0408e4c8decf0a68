use Rattle.cabinet_state.specs.Words.{tally_in}
use Rattle.cabinet_state.proofs.reading.tally_in.Goals as goal

pub returns : goal.returns
unfolding tally_in
returns c = simp (← c.word.ensures, ← c.small.ensures, ← c.small-2.ensures, ← c.outcome_of.ensures, ← c.small-3.ensures, c.outcome_of-2.ensures)
