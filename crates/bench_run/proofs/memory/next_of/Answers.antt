-- `bench_run::memory::next_of` meets its contract.
use Rattle.bench_run.specs.Memory.{next_of}
use Rattle.bench_run.proofs.memory.next_of.Goals as goal

pub returns-in-Play : goal.returns-in-Play
unfolding next_of
returns-in-Play c = simp (c.in-Ok.is, c.in-Play.is)

pub returns-in-Back : goal.returns-in-Back
unfolding next_of
returns-in-Back c = simp (c.in-Ok.is, c.in-Back.is)

pub returns-in_default : goal.returns-in_default
unfolding next_of
returns-in_default c = simp (c.answer_number.ensures, c.in_default.is)
