-- `schedule_text::put_records` meets its contract. The invariant: the records w of the lines before `at` are put, and with those of the lines from it on they make the
-- text's.
use Prim.Native.Nat.{ℕ, ◌+◌, ◌-◌, ◌≤◌}
use mathlib.Core.Path.{◌≡◌}
use mathlib.Core.List.{List}
use lib.ListN.{length}
use Rattle.text.specs.Writers.{Wrote}
use Rattle.schedule_text.specs.Texts.{after, read_lines, read_text}
use Rattle.words.specs.LineLaws.{lines_from}
use Rattle.schedule_text.proofs.reading.put_records.Given as goal

abbrev pub invariant-loop-at : goal.invariant-loop-at
invariant-loop-at l = (l.at ≤ length l.text + 1) × (l.line ≤ l.at + 1) × ((w : List ℕ) × Wrote l.initial.w l.w w × (after w (read_lines l.line (lines_from l.text l.at)) ≡ read_text l.text))

abbrev pub decreases-loop-at : goal.decreases-loop-at
decreases-loop-at l = length l.text + 1 - l.at
