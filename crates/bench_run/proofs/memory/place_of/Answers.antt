use mathlib.Core.Path.{refl, sym, ◌∙◌}
use mathlib.Core.Bool.{true≢false}
use mathlib.Core.Logic.{inl, inr}
use lib.Dec.{ltb}
use Rattle.ground.specs.Tests.{split}
use native.Mathlib.Omega.{arith}
use borrow.Author.Tests.{ltb-true, lt-ltb, le-ltb}
use Rattle.bench_run.specs.Memory.{place_of}
use Rattle.bench_run.proofs.memory.place_of.Goals as goal

pub returns-then-not-remembers : goal.returns-then-not-remembers
unfolding place_of
returns-then-not-remembers c = let x = c.args in elim (split (ltb x.k x.noted)) [
  | inl y ↦ absurd (true≢false (sym (c.requires.1 (ltb-true x.k x.noted y)).0 ∙ c.if-not-remembers.true))
  | inr y ↦ rw y refl
]

pub overflow_sub-i-then-k-noted : goal.overflow_sub-i-then-k-noted
overflow_sub-i-then-k-noted c = omega (arith, (c.requires.1 c.if-k-noted.true).1)

pub bounds-ring-i : goal.bounds-ring-i
bounds-ring-i c = omega (arith, c.requires.0)

pub returns-then-k-noted : goal.returns-then-k-noted
unfolding place_of
returns-then-k-noted c = rw (lt-ltb _ _ c.if-k-noted.true) refl

pub returns : goal.returns
unfolding place_of
returns c = rw (le-ltb _ _ c.if-k-noted.false) refl
