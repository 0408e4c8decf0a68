-- `words::nth_span` meets its contract. The invariant: `at` is past the first _i words.
use Rattle.std.proofs.Common.{◌≡◌, ◌≤◌, length}
use Rattle.words.specs.Words.{past}
use Rattle.words.proofs.scan.nth_span.Given as goal

abbrev pub invariant-loop-i : goal.invariant-loop-i
invariant-loop-i l = (l.at ≤ length l.s) × (l.at ≡ past l.s l._i)
