use Rattle.controller_state.proofs.holdings.from_if.Goals as goal

pub returns-then-takes : goal.returns-then-takes
returns-then-takes c = simp (c.if-takes.true, c.insert.ensures)
