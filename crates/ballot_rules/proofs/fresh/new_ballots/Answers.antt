use Rattle.protocol.specs.Ballots.{new_ballots}
use Rattle.ballot_rules.proofs.fresh.new_ballots.Goals as goal

pub returns : goal.returns
unfolding new_ballots
returns c = simp (← c.new_acceptor.ensures, c.new_row.ensures)
