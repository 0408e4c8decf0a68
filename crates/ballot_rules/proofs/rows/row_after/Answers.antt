use Rattle.protocol.specs.BallotSteps.{row_after}
use Rattle.ballot_rules.proofs.rows.row_after.Goals as goal

pub returns : goal.returns
unfolding row_after
returns c = simp (← c.from_if.ensures, ← c.reports.ensures, c.from_if-2.ensures)
