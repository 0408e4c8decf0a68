-- A list read by controller number, with one default or another for a number that has no element.
use Prim.Native.Nat.{ℕ, zero, suc, ◌≤◌}
use mathlib.Core.Path.{◌≡◌, refl}
use mathlib.Core.List.{List, [], ◌∷◌}
use native.Mathlib.Omega.{arith}
use lib.ListN.{length, get_or}
use Rattle.ground.specs.Lists.{nth}

-- what the two defaults have in common, the two readings have
get_or_alike : {A B : Type 0} (g : A → B) (d d' : A) → g d ≡ g d' → (l : List A) (k : ℕ) → g (get_or l k d) ≡ g (get_or l k d')
get_or_alike g d d' e [] k = e
get_or_alike g d d' e (x ∷ l) zero = refl
get_or_alike g d d' e (x ∷ l) (suc k) = get_or_alike g d d' e l k

pub nth_alike : {A B : Type 0} (g : A → B) (d d' : A) → g d ≡ g d' → (l : List A) (k : ℕ) → g (nth d l k) ≡ g (nth d' l k)
unfolding nth
nth_alike g d d' e l zero = e
nth_alike g d d' e l (suc k) = get_or_alike g d d' e l k

-- within the list they are the same
get_or-within : {A : Type 0} (d d' : A) (l : List A) (k : ℕ) → suc k ≤ length l → get_or l k d ≡ get_or l k d'
get_or-within d d' [] k h = absurd (omega arith)
get_or-within d d' (x ∷ l) zero h = refl
get_or-within d d' (x ∷ l) (suc k) h = get_or-within d d' l k (omega arith)

pub nth-within : {A : Type 0} (d d' : A) (l : List A) (k : ℕ) → 1 ≤ k → k ≤ length l → nth d l k ≡ nth d' l k
unfolding nth
nth-within d d' l zero a b = absurd (omega arith)
nth-within d d' l (suc k) a b = get_or-within d d' l k b
