use Rattle.model.proofs.ranges.different_controllers.Goals as goal

pub returns-then-not-is_controller : goal.returns-then-not-is_controller
returns-then-not-is_controller c = simp (← c.is_controller.ensures, c.if-not-is_controller.true)

pub returns-then-not-is_controller-2 : goal.returns-then-not-is_controller-2
returns-then-not-is_controller-2 c = simp (← c.is_controller.ensures, c.if-not-is_controller.false, ← c.is_controller-2.ensures, c.if-not-is_controller-2.true)

pub returns : goal.returns
returns c = simp (← c.is_controller.ensures, c.if-not-is_controller.false, ← c.is_controller-2.ensures, c.if-not-is_controller-2.false)
