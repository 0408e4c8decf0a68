-- `schedule_text::read_line` meets its contract. The invariant: the first i words, which stand before `at`, gave these fields.
use Prim.Native.Nat.{◌-◌, ◌≤◌}
use mathlib.Core.Path.{◌≡◌}
use lib.ListN.{length, drop}
use Rattle.words.specs.Words.{words_of}
use Rattle.schedule_text.specs.Texts.{read_words, read_line}
use Rattle.schedule_text.proofs.reading.read_line.Given as goal

abbrev pub invariant-loop-x : goal.invariant-loop-x
invariant-loop-x l = (l.at ≤ length l.l) × (l.i ≤ l.at) × (read_words l.i l.x (words_of (drop l.at l.l)) ≡ read_line l.l)

abbrev pub decreases-loop-x : goal.decreases-loop-x
decreases-loop-x l = length l.l - l.at
