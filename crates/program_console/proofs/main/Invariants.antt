-- `main` is safe and ends: each line is one byte further on, and each bench is laid at one of the ring's places.
use Rattle.std.proofs.Common.{◌≡◌, ◌≤◌, ◌+◌, ◌-◌, length}
use Rattle.program_console.proofs.main.Given as goal

abbrev pub invariant-loop-at : goal.invariant-loop-at
invariant-loop-at l = (l.have ≤ 327681) × (l.line ≤ l.at + 1) × (length l.input ≡ 327681)

abbrev pub decreases-loop-at : goal.decreases-loop-at
decreases-loop-at l = 327683 - l.at
