use Rattle.protocol.specs.Ballots.{majority}
use Rattle.ballot_rules.proofs.numbers.is_majority.Goals as goal

pub returns : goal.returns
unfolding majority
returns c = simp c.size-count.ensures
