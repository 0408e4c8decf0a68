-- `bench_report::lines::put_answer` meets its contract.
use Rattle.text.proofs.Wrote.{wrote_then}
use Rattle.bench_report.proofs.lines.put_answer.Goals as goal

pub returns : goal.returns
returns c = wrote_then c.number.ensures (wrote_then c.field.ensures c.byte.ensures)
