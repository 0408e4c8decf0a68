use Rattle.std.proofs.Common.{◌∙◌}
use Rattle.records.proofs.ByteLaws.{be_four}
use Rattle.event_record.proofs.event.record_bytes.Goals as goal

pub returns : goal.returns
returns c = rw (c.to_be_bytes-mark.ensures, c.to_be_bytes-value.ensures ∙ be_four _)
