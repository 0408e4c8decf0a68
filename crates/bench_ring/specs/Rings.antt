-- A ring of places for what is remembered: one place more than are remembered, so that the next place is always free.
use Rattle.std.specs.Prelude.{ℕ, suc, ◌+◌, ◌-◌, min, cond, eqb, ltb}
use Rattle.steps_back.specs.Memory.{most_remembered}
use Rattle.bench_back.specs.declared.Recall.{Recall}
use Rattle.bench_back.specs.declared.Recall.TheVariants.{Same, More, Fewer, Nothing}
use Rattle.bench_ring.specs.declared.Ring.{Ring}

abbrev pub places : ℕ
places = suc most_remembered

-- going round: the first place follows the last
unfoldable pub place_before : ℕ → ℕ
place_before at = cond (eqb at 0) most_remembered (at - 1)

unfoldable pub place_after : ℕ → ℕ
place_after at = cond (ltb at most_remembered) (at + 1) 0

abbrev pub ring : ℕ → ℕ → Ring
ring at count = record { at = at; count = count }

-- what becomes of it at an act
unfoldable pub ring_after : Ring → Recall → Ring
ring_after r Same = r
ring_after r More = ring (place_after r.at) (min most_remembered (r.count + 1))
ring_after r Fewer = ring (place_before r.at) (r.count - 1)
ring_after r Nothing = ring r.at 0
