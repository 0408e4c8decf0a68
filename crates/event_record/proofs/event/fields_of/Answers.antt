use Rattle.event_record.specs.Events.{fields_of}
use Rattle.event_record.proofs.event.fields_of.Goals as goal

pub returns-in-Play : goal.returns-in-Play
unfolding fields_of
returns-in-Play c = simp (c.in-Play.is, c.event_fields.ensures)

pub returns-in-Back : goal.returns-in-Back
unfolding fields_of
returns-in-Back c = simp c.in-Back.is
