-- `trace_text::lines::put_told` meets its contract.
use Rattle.text.proofs.Wrote.{wrote_then, wrote-text}
use mathlib.Core.Path.{ap}
use Rattle.event_record.specs.declared.Fields.{Fields}
use Rattle.schedule_text.specs.Forms.{rest_of}
use Rattle.trace.specs.Lines.{told_of}
use Rattle.trace_text.proofs.lines.put_told.Goals as goal

pub returns : goal.returns
unfolding told_of
returns c = wrote_then c.bytes.ensures (wrote-text c.put_rest.ensures (ap (λ (x : Fields). rest_of x) c.fields_of.ensures))
