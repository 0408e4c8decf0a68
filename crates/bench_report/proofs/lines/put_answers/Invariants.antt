-- `bench_report::lines::put_answers` meets its contract. The invariant: the lines of the first i answers are written.
use Rattle.text.specs.Text.{lines}
use Rattle.text.specs.Writers.{Wrote}
use Rattle.bench_report.specs.Lines.{answer_line}
use Rattle.bench_report.proofs.lines.put_answers.Given as goal

abbrev pub invariant-loop-i : goal.invariant-loop-i
invariant-loop-i l = Wrote l.initial.w l.w (lines l.i (answer_line l.answers))
