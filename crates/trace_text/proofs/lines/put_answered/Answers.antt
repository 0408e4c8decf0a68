-- `trace_text::lines::put_answered` meets its contract.
use Rattle.text.proofs.Wrote.{wrote_then}
use Rattle.trace.specs.Lines.{line_text}
use Rattle.trace_text.proofs.lines.put_answered.Goals as goal

pub returns : goal.returns
unfolding line_text
returns c =
    wrote_then c.number.ensures (wrote_then c.field.ensures (wrote_then c.byte.ensures (wrote_then c.put_verdict.ensures c.byte-2.ensures)))
