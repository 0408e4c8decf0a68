use mathlib.Core.Path.{refl}
use Rattle.bench_run.proofs.memory.is_pending.Goals as goal

pub returns-then-remembers : goal.returns-then-remembers
returns-then-remembers c = rw c.if-remembers.true refl
