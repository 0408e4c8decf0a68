use lib.ListN.{length-drop}
use native.Mathlib.Omega.{arith}
use Rattle.bench_run.specs.Schedule.{count}
use Rattle.bench_run.proofs.runs.count_from.Goals as goal

pub returns-then-s-from : goal.returns-then-s-from
unfolding count
returns-then-s-from c = simp (length-drop) (omega (arith, c.if-s-from.true))

pub returns : goal.returns
unfolding count
returns c = simp length-drop
