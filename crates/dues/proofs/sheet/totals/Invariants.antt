-- `dues::sheet::totals` meets its contract. The invariant: after `done` lockages, `upper` and `lower` are what these come to.
use mathlib.Core.Path.{◌≡◌}
use Rattle.dues.specs.Sheet.{lockages_to, total}
use Rattle.dues.specs.SheetLaws.{upper_of, lower_of}
use Rattle.dues.proofs.sheet.totals.Given as goal

abbrev pub invariant-loop-done : goal.invariant-loop-done
invariant-loop-done l =
    (l.upper ≡ total upper_of (lockages_to l.s l.done)) × (l.lower ≡ total lower_of (lockages_to l.s l.done))
