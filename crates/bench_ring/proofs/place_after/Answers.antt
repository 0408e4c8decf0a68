-- `bench_ring::place_after` meets its contract.
use borrow.Author.Tests.{lt-ltb, le-ltb}
use Rattle.bench_ring.specs.Rings.{place_after}
use Rattle.bench_ring.proofs.place_after.Goals as goal

pub returns-then-at-lt-MOST_REMEMBERED : goal.returns-then-at-lt-MOST_REMEMBERED
unfolding place_after
returns-then-at-lt-MOST_REMEMBERED c = simp (lt-ltb _ _ c.if-at-lt-MOST_REMEMBERED.true)

pub returns : goal.returns
unfolding place_after
returns c = simp (le-ltb _ _ c.if-at-lt-MOST_REMEMBERED.false)
