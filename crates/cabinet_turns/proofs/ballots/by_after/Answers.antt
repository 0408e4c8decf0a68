use Rattle.cabinet_turns.specs.Ballots.{by_after}
use Rattle.cabinet_turns.proofs.ballots.by_after.Goals as goal

pub returns-then-accepts : goal.returns-then-accepts
unfolding by_after
returns-then-accepts c = simp (← c.accepts.ensures, c.if-accepts.true, c.insert.ensures)

pub returns : goal.returns
unfolding by_after
returns c = simp (← c.accepts.ensures, c.if-accepts.false, ← c.accepts_own.ensures, c.by_itself.ensures)
