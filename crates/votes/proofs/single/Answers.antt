-- `votes::single` meets its contract, by what `insert` ensures.
use Rattle.votes.specs.VoteSets.{single}
use Rattle.votes.proofs.single.Goals as goal

pub returns-then-willing : goal.returns-then-willing
unfolding single
returns-then-willing c = rw (c.insert-known.ensures, c.if-willing.true)

pub returns-else-willing : goal.returns-else-willing
unfolding single
returns-else-willing c = rw (c.insert-known.ensures, c.if-willing.false)
