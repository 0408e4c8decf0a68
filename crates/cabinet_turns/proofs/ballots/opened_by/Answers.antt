use Rattle.cabinet_turns.specs.Ballots.{opened_by}
use Rattle.cabinet_turns.proofs.ballots.opened_by.Goals as goal

pub returns : goal.returns
unfolding opened_by
returns c = simp (← c.report_after-report.ensures, ← c.by_itself.ensures, c.with_ballots.ensures)
