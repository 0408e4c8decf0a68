use Rattle.cabinet_state.specs.Words.{acceptor_in}
use Rattle.cabinet_state.proofs.reading.acceptor_in.Goals as goal

pub returns : goal.returns
unfolding acceptor_in
returns c = simp (← c.small.ensures, ← c.small-2.ensures, ← c.small-3.ensures, ← c.small-4.ensures, c.outcome_of.ensures)
