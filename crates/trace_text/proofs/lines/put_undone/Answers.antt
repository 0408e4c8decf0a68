-- `trace_text::lines::put_undone` meets its contract.
use Rattle.text.proofs.Wrote.{wrote_then}
use Rattle.trace.specs.Lines.{line_text}
use Rattle.trace_text.proofs.lines.put_undone.Goals as goal

pub returns : goal.returns
unfolding line_text
returns c =
    wrote_then c.bytes.ensures (wrote_then c.field.ensures c.byte.ensures)
