-- `bench_report::lines::put_answers_in` meets its contract. The invariant: the lines of the first decades are written, and the digits are those of the next one's first index.
use Prim.Native.Nat.{◌≤◌, ◌*◌, ◌-◌, min}
use mathlib.Core.Path.{◌≡◌}
use lib.ListN.{length}
use Rattle.text.specs.Text.{lines}
use Rattle.text.specs.Writing.{Put}
use Rattle.bench_report.specs.Digits.{digits_of}
use Rattle.bench_report.specs.Lines.{answer_line}
use Rattle.bench_report.proofs.lines.put_answers_in.Given as goal

abbrev pub invariant-loop-tens : goal.invariant-loop-tens
invariant-loop-tens l =
    (l.tens ≤ 410) × Put l.initial.out l.out 0 l.next (lines (min (l.tens * 10) (length l.answers)) (answer_line l.answers)) × (l.d ≡ digits_of (l.tens * 10))

abbrev pub decreases-loop-tens : goal.decreases-loop-tens
decreases-loop-tens l = 410 - l.tens
