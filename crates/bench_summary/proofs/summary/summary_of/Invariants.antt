-- `bench_summary::summary::summary_of` meets its contract. The first loop: the first i rows are those of the stations, the others blank. The second: the messages are
-- those of the first j controllers, at most 255 of a kind for each.
use Prim.Native.Nat.{ℕ, ◌*◌, ◌≤◌}
use mathlib.Core.List.{◌++◌, map}
use mathlib.Core.Path.{◌≡◌}
use lib.ListN.{take, drop, replicate}
use Rattle.ground.specs.Limit.{limit}
use Rattle.bench_report.specs.Lines.{blank_row}
use Rattle.bench_report.specs.declared.MessageCounts.{MessageCounts}
use Rattle.bench_summary.specs.Summary.{row_of, shown_of, counts_to}
use Rattle.bench_summary.proofs.summary.summary_of.Given as goal

-- of each kind at most so many
abbrev pub AtMost : ℕ → MessageCounts → Type 0
AtMost k t = (t.vote ≤ k) × ((t.ack ≤ k) × ((t.help ≤ k) × (t.helped ≤ k)))

abbrev pub invariant-loop-i : goal.invariant-loop-i
invariant-loop-i l = l.rows ≡ take l.i (map row_of l.stations) ++ drop l.i (replicate limit blank_row)

abbrev pub invariant-loop-j : goal.invariant-loop-j
invariant-loop-j l = AtMost (l.j * 255) l.messages × (l.messages ≡ counts_to (shown_of l.m l.stations) l.j)
