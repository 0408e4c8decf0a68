use Rattle.event_record.specs.Events.{ballot_fields}
use Rattle.event_record.proofs.event.ballot_fields.Goals as goal

pub returns-in-Open : goal.returns-in-Open
unfolding ballot_fields
returns-in-Open c = simp c.in-Open.is

pub returns-in-Carry : goal.returns-in-Carry
unfolding ballot_fields
returns-in-Carry c = simp (c.in-Carry.is, c.from.ensures)
