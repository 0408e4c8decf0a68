-- `bench_report::lines::put_messages` meets its contract.
use Rattle.text.proofs.Wrote.{wrote_then}
use Rattle.bench_report.proofs.lines.put_messages.Goals as goal

pub returns : goal.returns
returns c =
    wrote_then c.byte.ensures (wrote_then c.field.ensures (wrote_then c.field-2.ensures (wrote_then c.field-3.ensures
    (wrote_then c.field-4.ensures c.byte-2.ensures))))
