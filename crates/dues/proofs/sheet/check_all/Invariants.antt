-- `dues::sheet::check_all` meets its contract. The invariant: after k lockages, each flag says whether all of them pass its question.
use mathlib.Core.Path.{◌≡◌}
use Rattle.dues.specs.Sheet.{lockages_to, every, listed, in_range}
use Rattle.dues.proofs.sheet.check_all.Given as goal

abbrev pub invariant-loop-k : goal.invariant-loop-k
invariant-loop-k l = (l.listed_all ≡ every listed (lockages_to l.s l.k)) × (l.in_range_all ≡ every in_range (lockages_to l.s l.k))
