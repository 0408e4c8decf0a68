use Rattle.cabinet_turns.specs.Ballots.{report_after}
use Rattle.cabinet_turns.proofs.ballots.report_after.Goals as goal

pub returns-then-x : goal.returns-then-x
unfolding report_after
returns-then-x c = simp c.if-x.true

pub returns : goal.returns
unfolding report_after
returns c = simp c.if-x.false
