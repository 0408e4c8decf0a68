-- The k-th of two lists, one after the other: in the first, of which there are p, and past it.
use Prim.Native.Nat.{ℕ, ◌-◌, ◌≤◌, ◌<◌}
use mathlib.Core.Path.{◌≡◌, sym, ◌∙◌, ap}
use mathlib.Core.List.{List, ◌++◌}
use native.Mathlib.Omega.{arith}
use lib.ListN.{length}
use Rattle.std.specs.Prelude.{slice_get}
use Rattle.protocol.specs.SequenceLaws.{nth_in, nth_past}

pub here : {A : Type 0} (xs ys : List A) (k p : ℕ) → p ≡ length xs → k < p → slice_get xs k ≡ slice_get (xs ++ ys) k
here xs ys k p e h = sym (nth_in xs ys k (omega arith))

pub past : {A : Type 0} (xs ys : List A) (k p : ℕ) → p ≡ length xs → p ≤ k → slice_get ys (k - p) ≡ slice_get (xs ++ ys) k
past xs ys k p e h = ap (λ (x : ℕ). slice_get ys (k - x)) e ∙ sym (nth_past xs ys k (omega arith))
