use Rattle.cabinet_turns.specs.Turns.{no_ballots}
use Rattle.cabinet_turns.proofs.turns.no_ballots.Goals as goal

pub returns : goal.returns
unfolding no_ballots
returns c = simp (← c.new_acceptor-acceptor.ensures, ← c.no_promise-report.ensures, c.new_tally-tally.ensures)
