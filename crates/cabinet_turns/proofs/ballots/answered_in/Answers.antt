use Rattle.cabinet_turns.specs.Ballots.{answered_in}
use Rattle.cabinet_turns.proofs.ballots.answered_in.Goals as goal

pub returns : goal.returns
unfolding answered_in
returns c = simp (← c.report_after-report.ensures, ← c.tally_after-tally.ensures, ← c.by_after.ensures, c.with_ballots.ensures)
