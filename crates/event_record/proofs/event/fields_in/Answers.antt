-- `fields_in` meets its contract: each field is read within the slice, and is the number of its bytes.
use Rattle.event_record.specs.Events.{fields_in}
use Rattle.event_record.proofs.event.fields_in.Goals as goal

pub returns : goal.returns
unfolding fields_in
returns c = simp c.number4.ensures
