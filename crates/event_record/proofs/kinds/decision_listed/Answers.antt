use Rattle.event_record.proofs.kinds.decision_listed.Goals as goal

pub returns-then-is_flag : goal.returns-then-is_flag
returns-then-is_flag c = simp (← c.is_flag.ensures, c.if-is_flag.true, c.rest_unused.ensures)

pub returns-else-is_flag : goal.returns-else-is_flag
returns-else-is_flag c = simp (← c.is_flag.ensures, c.if-is_flag.false)
