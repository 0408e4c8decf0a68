-- `votes::join` meets its contract, by what `contradicts` ensures.
use Rattle.votes.specs.VoteSets.{union}
use Rattle.votes.specs.Joining.{join}
use Rattle.votes.proofs.join.Goals as goal

pub returns-then-contradicts : goal.returns-then-contradicts
unfolding join union
returns-then-contradicts c = simp (← c.contradicts.ensures, c.if-contradicts.true)

pub returns : goal.returns
unfolding join union
returns c = simp (← c.contradicts.ensures, c.if-contradicts.false)
