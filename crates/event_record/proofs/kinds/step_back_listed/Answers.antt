use Rattle.event_record.proofs.kinds.step_back_listed.Goals as goal

pub returns-then-order_listed : goal.returns-then-order_listed
returns-then-order_listed c = simp (← c.order_listed.ensures, c.if-order_listed.true)

pub returns-else-order_listed : goal.returns-else-order_listed
returns-else-order_listed c = simp (← c.order_listed.ensures, c.if-order_listed.false)
