use native.Mathlib.Omega.{arith}
use Rattle.bench_run.proofs.runs.ballots_asked.Goals as goal

pub returns-then-own : goal.returns-then-own
returns-then-own c = (simp c.if-own.true, omega arith)

pub returns : goal.returns
returns c = (simp c.if-own.false, omega arith)
