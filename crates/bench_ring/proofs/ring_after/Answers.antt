-- `bench_ring::ring_after` meets its contract.
use Rattle.bench_ring.specs.Rings.{ring_after}
use Rattle.bench_ring.specs.RingLaws.{after-place}
use Rattle.bench_ring.proofs.ring_after.Goals as goal

pub returns-in-Same : goal.returns-in-Same
unfolding ring_after
returns-in-Same c = (simp c.in-Same.is, λ h. h)

pub returns-in-More : goal.returns-in-More
unfolding ring_after
returns-in-More c = (simp (c.in-More.is, c.place_after.ensures, c.one_more.ensures), λ h. rw c.place_after.ensures (after-place _))

pub returns-in-Fewer : goal.returns-in-Fewer
unfolding ring_after
returns-in-Fewer c = (simp (c.in-Fewer.is, c.place_before.ensures.0, c.saturating_sub.ensures), λ h. c.place_before.ensures.1 h)

pub returns-in-Nothing : goal.returns-in-Nothing
unfolding ring_after
returns-in-Nothing c = (simp c.in-Nothing.is, λ h. h)
