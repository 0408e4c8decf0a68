-- `bench_report::lines::put_controllers` meets its contract. The invariant: the lines of the first i controllers are written.
use Rattle.bench_report.specs.Lines.{controller_lines}
use Rattle.text.specs.Writers.{Wrote}
use Rattle.bench_report.proofs.lines.put_controllers.Given as goal

abbrev pub invariant-loop-i : goal.invariant-loop-i
invariant-loop-i l = Wrote l.initial.w l.w (controller_lines l.i l.rows)
