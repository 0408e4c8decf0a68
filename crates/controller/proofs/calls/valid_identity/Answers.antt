use Rattle.protocol.specs.Calls.{valid_identity}
use Rattle.controller.proofs.calls.valid_identity.Goals as goal

pub returns-then-not-sizes_in_range : goal.returns-then-not-sizes_in_range
unfolding valid_identity
returns-then-not-sizes_in_range c = simp (← c.sizes_in_range.ensures, c.if-not-sizes_in_range.true)

pub returns-then-not-is_controller : goal.returns-then-not-is_controller
unfolding valid_identity
returns-then-not-is_controller c = simp (← c.sizes_in_range.ensures, c.if-not-sizes_in_range.false, ← c.is_controller.ensures, c.if-not-is_controller.true)

pub returns : goal.returns
unfolding valid_identity
returns c = simp (← c.sizes_in_range.ensures, c.if-not-sizes_in_range.false, ← c.is_controller.ensures, c.if-not-is_controller.false)
