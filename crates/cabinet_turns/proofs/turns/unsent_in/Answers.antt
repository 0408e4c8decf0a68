use Rattle.cabinet_turns.proofs.turns.unsent_in.Goals as goal

pub returns : goal.returns
returns c = simp (← c.in_order-me.ensures, ← c.unsent_all-sent.ensures, c.no_ballots-ballots.ensures)
