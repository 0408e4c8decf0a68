-- Laws of the ring: a place follows a place.
use Rattle.std.specs.Prelude.{ℕ, ◌+◌, ◌<◌, ltb}
use Rattle.std.proofs.Common.{arith, ltb-true}
use Rattle.ground.specs.Tests.{by_cond}
use Rattle.steps_back.specs.Memory.{most_remembered}
use Rattle.bench_ring.specs.Rings.{places, place_after}

pub after-place : (at : ℕ) → place_after at < places
unfolding place_after
after-place at = by_cond (λ (k : ℕ). k < places) (ltb at most_remembered) (at + 1) 0 (λ e. omega (arith, ltb-true at most_remembered e)) (λ _. omega arith)
