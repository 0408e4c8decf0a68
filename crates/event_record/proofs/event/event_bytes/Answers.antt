use mathlib.Core.Path.{◌∙◌, ap}
use Rattle.event_record.specs.Events.{record_bytes}
use Rattle.event_record.proofs.event.event_bytes.Goals as goal

pub returns : goal.returns
returns c = c.record_bytes.ensures ∙ ap record_bytes c.fields_of.ensures
