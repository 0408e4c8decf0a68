-- A loop over the controllers 1 to m that stops at the first that does not pass.
use Prim.Native.Nat.{ℕ, ◌≤◌}
use mathlib.Core.Path.{◌≡◌}
use mathlib.Core.Bool.{Bool, false}
use mathlib.Core.Logic.{inl, inr}
use Rattle.ground.specs.Tests.{split, no_both}
use Rattle.ground.specs.Quantify.{all_to, all-at}

pub all_no : (m : ℕ) (p : ℕ → Bool) (k : ℕ) → 1 ≤ k → k ≤ m → p k ≡ false → all_to m p ≡ false
all_no m p k a b e = elim (split (all_to m p)) [
  | inl t ↦ absurd (no_both (p k) (all-at m p t k a b) e)
  | inr q ↦ q
]
