use mathlib.Core.Path.{refl}
use borrow.Author.Tests.{lt-ltb, le-ltb}
use Rattle.bench_run.proofs.memory.kept_of.Goals as goal

pub returns-then-left-lt-PAGE : goal.returns-then-left-lt-PAGE
returns-then-left-lt-PAGE c = rw (lt-ltb _ 128 c.if-left-lt-PAGE.true) refl

pub returns : goal.returns
returns c = rw (le-ltb _ 128 c.if-left-lt-PAGE.false) refl
