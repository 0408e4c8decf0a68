use Rattle.cabinet_turns.specs.Ballots.{received}
use Rattle.cabinet_turns.proofs.ballots.received.Goals as goal

pub returns-in-Err : goal.returns-in-Err
unfolding received
returns-in-Err g c = simp c.in-Err.is

pub returns-in-Ok : goal.returns-in-Ok
unfolding received
returns-in-Ok g c = simp (c.in-Ok.is, c.received_telegram.ensures)
