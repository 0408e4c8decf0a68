use Rattle.cabinet_state.specs.Words.{report_in}
use Rattle.cabinet_state.proofs.reading.report_in.Goals as goal

pub returns : goal.returns
unfolding report_in
returns c = simp (← c.small.ensures, ← c.flag_of.ensures, ← c.small-2.ensures, ← c.small-3.ensures, c.outcome_of.ensures)
