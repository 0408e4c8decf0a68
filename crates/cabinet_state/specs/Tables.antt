-- Lists by index, and what holds below a number.
use Rattle.std.specs.Prelude.{ℕ, zero, suc, Bool, true, ◌&&◌, List, [], ◌∷◌}

-- a list of n elements, each from its index
unfoldable pub tabulate : {A : Type 0} → ℕ → (ℕ → A) → List A
tabulate zero g = []
tabulate (suc n) g = g 0 ∷ tabulate n (λ k. g (suc k))

-- does it hold of all below n
unfoldable pub all_below : ℕ → (ℕ → Bool) → Bool
all_below zero g = true
all_below (suc n) g = all_below n g && g n
