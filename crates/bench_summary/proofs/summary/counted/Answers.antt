-- `bench_summary::summary::counted` meets its contract.
use native.Mathlib.Omega.{arith}
use Rattle.bench_summary.proofs.summary.counted.Goals as goal

pub returns : goal.returns
returns c =
    (simp (c.size-4.ensures, c.receivers_at-4.ensures, c.size-3.ensures, c.receivers_at-3.ensures, c.size-2.ensures, c.receivers_at-2.ensures, c.size.ensures, c.receivers_at.ensures), (omega arith, (omega arith, (omega arith, omega arith))))
