use Rattle.cabinet_turns.specs.Ballots.{settled}
use Rattle.cabinet_turns.proofs.ballots.settled.Goals as goal

pub returns-then-is_majority : goal.returns-then-is_majority
unfolding settled
returns-then-is_majority c = simp (← c.is_majority.ensures, c.if-is_majority.true)

pub returns : goal.returns
unfolding settled
returns c = simp (← c.is_majority.ensures, c.if-is_majority.false)
