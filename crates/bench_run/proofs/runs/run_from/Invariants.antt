-- The loop keeps `Upto`: the bench in the run's variables is that of the events left of the records so far, or, while events are played again, of the first of them; the buffer begins with
-- the answers; what is remembered is `Memory`. Each way through the body is one law of PlayLaws, BallotPlay or Records. The second loop keeps that the stations before its index are renewed
-- and the others as they were; the third, whether the word was chosen in a ballot before its index.
use Prim.Native.Nat.{◌+◌, ◌-◌, ◌*◌, ◌≤◌}
use mathlib.Core.Path.{◌≡◌}
use mathlib.Core.Bool.{cond}
use lib.ListN.{length, drop}
use Rattle.ground.specs.Limit.{limit}
use Rattle.ground.specs.Quantify.{any_to}
use Rattle.ground.specs.Firsts.{map_first}
use Rattle.protocol.specs.Ballots.{chosen_in}
use Rattle.protocol.specs.Steps.{renewed}
use Rattle.bench_run.proofs.Local.{bench_with}
use Rattle.bench_run.proofs.Records.{Upto}
use Rattle.bench_run.proofs.runs.run_from.Given as goal

abbrev pub invariant-loop-i : goal.invariant-loop-i
invariant-loop-i l = (l.i ≤ l.end) × (length l.initial.stations ≡ limit) × (l.stations ≡ map_first renewed l.i l.initial.stations)

abbrev pub decreases-loop-i : goal.decreases-loop-i
decreases-loop-i l = l.end - l.i

abbrev pub invariant-loop-i-2 : goal.invariant-loop-i-2
invariant-loop-i-2 l = (l.i ≤ l.end) × (l.chosen ≡ any_to l.i (chosen_in l.m.n (record { acceptors = l.acceptors; rows = l.rows }) l.to_move))

abbrev pub decreases-loop-i-2 : goal.decreases-loop-i-2
decreases-loop-i-2 l = l.end - l.i

abbrev pub invariant-loop-k : goal.invariant-loop-k
invariant-loop-k l = Upto (record { s = drop l.from l.s; out = l.initial.answers; all = l.count }) (record { on = l.remembers; noted = l.noted; count = l.left; undoable = l.undoable; ring = l.ring; even = l.even; odd = l.odd }) l.k (bench_with l.m (record { acceptors = l.acceptors; rows = l.rows }) l.stations) l.answers

abbrev pub decreases-loop-k : goal.decreases-loop-k
decreases-loop-k l = 200 * (l.count - l.noted) + (l.count - l.k) + cond l.remembers 0 (l.count + 1)
