-- `bench_report::lines::put_decade` meets its contract. The invariant: the decade's first lines are written.
use Rattle.text.specs.Text.{lines}
use Rattle.text.specs.Writing.{Put}
use Rattle.bench_report.specs.Lines.{decade_line}
use Rattle.bench_report.proofs.lines.put_decade.Given as goal

abbrev pub invariant-loop-ones : goal.invariant-loop-ones
invariant-loop-ones l = Put l.initial.out l.out l.at l.next (lines l.ones (decade_line l.answers l.tens))
