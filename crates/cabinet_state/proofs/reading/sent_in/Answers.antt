use Rattle.cabinet_state.specs.Words.{sent_in}
use Rattle.cabinet_state.proofs.reading.sent_in.Goals as goal

pub returns : goal.returns
unfolding sent_in
returns c = simp (← c.outgoing_in.ensures, ← c.outgoing_in-2.ensures, ← c.outgoing_in-3.ensures, c.outgoing_in-4.ensures)
