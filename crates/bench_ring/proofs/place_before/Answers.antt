-- `bench_ring::place_before` meets its contract.
use native.Mathlib.Omega.{arith}
use borrow.Author.Tests.{eq-eqb, ne_eqb}
use Rattle.bench_ring.specs.Rings.{place_before}
use Rattle.bench_ring.proofs.place_before.Goals as goal

pub returns-then-at-eq0 : goal.returns-then-at-eq0
unfolding place_before
returns-then-at-eq0 c = (simp (eq-eqb _ _ c.if-at-eq0.true), λ h. omega arith)

pub returns : goal.returns
unfolding place_before
returns c = (simp (ne_eqb _ _ c.if-at-eq0.false), λ h. omega arith)
