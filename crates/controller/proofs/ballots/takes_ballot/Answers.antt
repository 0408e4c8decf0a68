use Rattle.controller.proofs.ballots.takes_ballot.Goals as goal

pub returns-then-not-takes_part : goal.returns-then-not-takes_part
returns-then-not-takes_part c = simp (← c.takes_part.ensures, c.if-not-takes_part.true)

pub returns : goal.returns
returns c = simp (← c.takes_part.ensures, c.if-not-takes_part.false, c.comes.ensures)
