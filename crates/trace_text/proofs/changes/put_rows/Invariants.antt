-- `trace_text::changes::put_rows` meets its contract.
use Prim.Native.Nat.{ℕ}
use mathlib.Core.List.{List}
use mathlib.Core.Bool.{not}
use Rattle.ground.specs.Lists.{nth}
use Rattle.bench_report.specs.declared.Row.{Row}
use Rattle.bench_report.specs.Lines.{blank_row}
use Rattle.text.specs.Writers.{Wrote}
use Rattle.trace.specs.Lines.{Line, Shows, text, when, each}
use Rattle.trace.specs.Shown.{unchanged}
use Rattle.trace_text.proofs.changes.put_rows.Given as goal

abbrev pub row_lines : ℕ → List Row → List Row → ℕ → List Line
row_lines m old new k = when (not (unchanged m k (nth blank_row old k) (nth blank_row new k))) (Shows k (nth blank_row new k))

abbrev pub invariant-loop-i : goal.invariant-loop-i
invariant-loop-i l = Wrote l.initial.w l.w (text (each l.i (row_lines l.old_n l.old l.new)))
