-- `schedule_text::put_text` meets its contract. The invariant: the text w of the first k records is put, and with that of the others it makes the schedule's.
use Prim.Native.Nat.{ℕ, ◌-◌, ◌≤◌}
use mathlib.Core.Path.{◌≡◌}
use mathlib.Core.List.{List}
use lib.ListN.{length}
use Rattle.text.specs.Writers.{Wrote}
use Rattle.schedule_text.specs.Texts.{after, write_text}
use Rattle.schedule_text.specs.TextLaws.{records_from}
use Rattle.schedule_text.proofs.writing.put_text.Given as goal

abbrev pub invariant-loop-at : goal.invariant-loop-at
invariant-loop-at l = (l.k ≤ l.at) × ((w : List ℕ) × Wrote l.initial.w l.w w × (after w (records_from l.k l.s l.at) ≡ write_text l.s))

abbrev pub decreases-loop-at : goal.decreases-loop-at
decreases-loop-at l = length l.s - l.at
