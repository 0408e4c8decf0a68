use Rattle.cabinet_state.specs.Words.{ballots_in}
use Rattle.cabinet_state.proofs.reading.ballots_in.Goals as goal

pub returns : goal.returns
unfolding ballots_in
returns c = simp (← c.acceptor_in-acceptor.ensures, ← c.report_in-report.ensures, ← c.tally_in-tally.ensures, ← c.small.ensures, c.word.ensures)
