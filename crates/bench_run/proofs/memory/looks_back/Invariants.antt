-- `bench_run::memory::looks_back` is safe and ends: the last four records end within the schedule, and no place of the loop is behind them.
use Prim.Native.Nat.{◌-◌, ◌≤◌}
use Rattle.bench_run.proofs.memory.looks_back.Given as goal

abbrev pub invariant-loop-at : goal.invariant-loop-at
invariant-loop-at l = l.from ≤ l.at

abbrev pub decreases-loop-at : goal.decreases-loop-at
decreases-loop-at l = l.last - l.at
