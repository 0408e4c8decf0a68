use Rattle.controller.proofs.calls.takes_part.Goals as goal

pub returns-then-not-valid_identity : goal.returns-then-not-valid_identity
returns-then-not-valid_identity c = simp (← c.valid_identity.ensures, c.if-not-valid_identity.true)

pub returns : goal.returns
returns c = simp (← c.valid_identity.ensures, c.if-not-valid_identity.false, c.is_running.ensures)
