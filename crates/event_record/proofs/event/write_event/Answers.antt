-- `write_event` meets its contract.
use Rattle.std.proofs.Common.{refl}
use Rattle.model.specs.Questions.{first_no}
use Rattle.records.proofs.FrameLaws.{record-written}
use Rattle.event_record.specs.Events.{events}
use Rattle.event_record.proofs.event.write_event.Goals as goal

pub returns : goal.returns
unfolding first_no
returns c = record-written events _ _ _ c.event_bytes-content.ensures refl refl c.write_record.ensures
