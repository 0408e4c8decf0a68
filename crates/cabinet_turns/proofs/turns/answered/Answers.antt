use Rattle.cabinet_turns.specs.Turns.{answered}
use Rattle.cabinet_turns.proofs.turns.answered.Goals as goal

pub returns : goal.returns
unfolding answered
returns c = simp c.sent_after-sent.ensures
