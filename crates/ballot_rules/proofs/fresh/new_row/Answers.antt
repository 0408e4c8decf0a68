use Rattle.protocol.specs.Ballots.{new_row}
use Rattle.ballot_rules.proofs.fresh.new_row.Goals as goal

pub returns : goal.returns
unfolding new_row
returns c = simp c.new_tally.ensures
