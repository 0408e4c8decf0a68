-- `words::line_span` meets its contract. The invariant: line _i begins at `at`.
use Rattle.std.proofs.Common.{◌≡◌, ◌≤◌, ◌+◌, length}
use Rattle.words.specs.Words.{line_at}
use Rattle.words.proofs.scan.line_span.Given as goal

abbrev pub invariant-loop-i : goal.invariant-loop-i
invariant-loop-i l = (l.at ≤ length l.s + 1) × (l.at ≡ line_at l.s l._i)
