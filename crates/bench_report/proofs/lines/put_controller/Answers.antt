-- `bench_report::lines::put_controller` meets its contract.
use Rattle.text.proofs.Wrote.{wrote_then}
use Rattle.bench_report.proofs.lines.put_controller.Goals as goal

pub returns : goal.returns
returns c =
    wrote_then c.byte.ensures (wrote_then c.field.ensures (wrote_then c.field-2.ensures (wrote_then c.put_outcome.ensures
    (wrote_then c.signed_field.ensures c.byte-2.ensures))))
