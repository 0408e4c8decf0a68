use mathlib.Core.Path.{refl, ap, ◌∙◌}
use Rattle.bench_run.specs.Memory.{next_of, next_at}
use Rattle.bench_run.proofs.memory.next_at.Goals as goal

pub returns-then-pending : goal.returns-then-pending
unfolding next_at
returns-then-pending c = rw c.if-pending.true refl

pub returns : goal.returns
unfolding next_at
returns c = rw c.if-pending.false (c.next_of.ensures ∙ ap next_of c.record_at.ensures)
