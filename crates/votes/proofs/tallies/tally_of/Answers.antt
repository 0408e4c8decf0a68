-- `votes::tally_of` meets its contract, by what `full_to` ensures of each mask.
use Rattle.votes.specs.VoteSets.{complete, unanimous}
use Rattle.votes.specs.Tallies.{tally_of}
use Rattle.votes.proofs.tallies.tally_of.Goals as goal

pub returns-then-complete : goal.returns-then-complete
unfolding tally_of complete unanimous
returns-then-complete c = simp (← c.full_to-complete.ensures, c.if-complete.true, c.full_to-unanimous.ensures)

pub returns-else-complete : goal.returns-else-complete
unfolding tally_of complete unanimous
returns-else-complete c = simp (← c.full_to-complete.ensures, c.if-complete.false)
