-- `bench_report::measure` meets its contract: no report is so long that its end has no index.
use native.Mathlib.Omega.{arith}
use Rattle.text.specs.WritingLaws.{measured}
use Rattle.bench_report.proofs.Room.{report-length}
use Rattle.bench_report.proofs.measure.Goals as goal

pub returns : goal.returns
returns c =
    let a = c.args in
    measured (omega (arith, report-length a.answers.now a.s)) c.put_report.ensures
