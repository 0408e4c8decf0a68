use Rattle.controller_state.proofs.conditions.landing.Goals as goal

pub returns-then-moves_in : goal.returns-then-moves_in
returns-then-moves_in c = simp (← c.moves_in.ensures, c.if-moves_in.true)

pub returns : goal.returns
returns c = simp (← c.moves_in.ensures, c.if-moves_in.false)
