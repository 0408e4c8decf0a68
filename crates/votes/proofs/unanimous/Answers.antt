-- `votes::unanimous` meets its contract, by what `full_to` ensures of each mask.
use Rattle.votes.specs.VoteSets.{unanimous}
use Rattle.votes.proofs.unanimous.Goals as goal

pub returns-then-full_to : goal.returns-then-full_to
unfolding unanimous
returns-then-full_to c = simp (← c.full_to.ensures, c.if-full_to.true, c.full_to-then-full_to.ensures)

pub returns-else-full_to : goal.returns-else-full_to
unfolding unanimous
returns-else-full_to c = simp (← c.full_to.ensures, c.if-full_to.false)
