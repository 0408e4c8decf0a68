-- `bench_report::lines::put_outcome` meets its contract.
use Rattle.text.proofs.Wrote.{wrote_then, wrote-text}
use Rattle.bench_report.proofs.lines.put_outcome.Goals as goal

pub returns : goal.returns
returns c = wrote-text (wrote_then c.byte.ensures c.byte-2.ensures) (rw c.letter_of.ensures)
