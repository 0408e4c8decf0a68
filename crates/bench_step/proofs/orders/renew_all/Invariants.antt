-- The loop keeps that the stations before the index are renewed and the others as they were.
use Rattle.ground.specs.Limit.{limit}
use mathlib.Core.Path.{◌≡◌}
use lib.ListN.{length}
use Rattle.protocol.specs.Steps.{renewed}
use Rattle.ground.specs.Firsts.{map_first}
use Rattle.bench_step.proofs.orders.renew_all.Given as goal

abbrev pub invariant-loop-at : goal.invariant-loop-at
invariant-loop-at l = (length l.initial.all ≡ limit) × (l.all ≡ map_first renewed l.at l.initial.all)
