use Rattle.cabinet_turns.specs.Ballots.{by_itself}
use Rattle.cabinet_turns.proofs.ballots.by_itself.Goals as goal

pub returns-then-accepts : goal.returns-then-accepts
unfolding by_itself
returns-then-accepts c = simp (c.if-accepts.true, c.insert.ensures)

pub returns : goal.returns
unfolding by_itself
returns c = simp c.if-accepts.false
