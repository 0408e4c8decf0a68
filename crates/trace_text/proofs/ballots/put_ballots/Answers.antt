-- `trace_text::ballots::put_ballots` meets its contract.
use Rattle.text.proofs.Wrote.{wrote-text}
use Rattle.trace.specs.Shown.{ballots}
use Rattle.trace_text.proofs.ballots.put_ballots.Goals as goal

pub returns-in-OfBallots : goal.returns-in-OfBallots
unfolding ballots
returns-in-OfBallots c = wrote-text c.put_ballot_sent.ensures (rw c.in-OfBallots.is)
