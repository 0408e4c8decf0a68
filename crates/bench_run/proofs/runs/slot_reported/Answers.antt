use native.Mathlib.Omega.{arith}
use Rattle.bench_run.proofs.runs.slot_reported.Goals as goal

pub returns : goal.returns
returns c = (c.slot.ensures.0, λ h. c.slot.ensures.1 h (omega arith))
