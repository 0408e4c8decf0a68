-- `program_console::hearing::next_line` is safe and ends: each turn of the loop has read at least one byte.
use Rattle.std.proofs.Common.{◌≡◌, ◌≤◌, ◌-◌, length}
use Rattle.program_console.proofs.hearing.next_line.Given as goal

abbrev pub invariant-loop-have : goal.invariant-loop-have
invariant-loop-have l = (l.have ≤ length l.input) × (length l.input ≡ length l.fn.input)

abbrev pub decreases-loop-have : goal.decreases-loop-have
decreases-loop-have l = length l.fn.input - l.have
