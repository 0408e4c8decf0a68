use mathlib.Core.Path.{refl}
use borrow.Author.Tests.{eq-eqb, ne_eqb, lt-ltb, le-ltb}
use Rattle.bench_run.specs.Memory.{remembered}
use Rattle.bench_run.proofs.memory.remembered.Goals as goal

pub returns-then-left-eq0 : goal.returns-then-left-eq0
unfolding remembered
returns-then-left-eq0 c = rw (eq-eqb _ 0 c.if-left-eq0.true) refl

pub returns-then-undoable-lt-MOST_REMEMBERED : goal.returns-then-undoable-lt-MOST_REMEMBERED
unfolding remembered
returns-then-undoable-lt-MOST_REMEMBERED c = rw (ne_eqb _ 0 c.if-left-eq0.false, lt-ltb _ 64 c.if-undoable-lt-MOST_REMEMBERED.true) refl

pub returns : goal.returns
unfolding remembered
returns c = rw (ne_eqb _ 0 c.if-left-eq0.false, le-ltb _ 64 c.if-undoable-lt-MOST_REMEMBERED.false) refl
