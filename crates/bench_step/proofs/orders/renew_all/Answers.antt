-- The loop keeps that the stations before the index are renewed and the others as they were.
use mathlib.Core.Path.{◌∙◌}
use mathlib.Core.List.{[]}
use native.Mathlib.Omega.{arith}
use Rattle.protocol.specs.Benches.{fresh_station, fresh, unsent_all}
use Rattle.protocol.specs.Steps.{renewed}
use Rattle.ground.specs.Firsts.{first-none, first_more, first-map}
use Rattle.std.proofs.Common.{rules}
use Rattle.bench_step.proofs.orders.renew_all.Goals as goal

pub loop-at-init : goal.loop-at-init
loop-at-init c = (search rules, first-none renewed _)

pub loop-at-preserved : goal.loop-at-preserved
unfolding fresh_station fresh unsent_all
loop-at-preserved c =
    let l = c.loop-at in
    (l.invariant.0, rw (c.renewed.ensures, l.invariant.1) (first_more renewed l.at c.args.stations (fresh_station []) (omega arith)))

pub returns : goal.returns
returns c =
    let l = c.loop-at in
    l.invariant.1 ∙ first-map renewed l.at c.args.stations (omega arith)
