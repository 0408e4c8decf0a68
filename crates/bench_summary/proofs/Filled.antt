-- A list filled from its front: the first i are those of s, the others still those of d.
use Prim.Native.Nat.{ℕ, suc, ◌+◌, ◌<◌, ◌≤◌}
use mathlib.Core.List.{List, ◌++◌, append-nil}
use mathlib.Core.Path.{◌≡◌}
use native.Mathlib.Nat.{zero-add}
use native.Mathlib.Numerals.{add-one}
use native.Mathlib.Omega.{arith}
use lib.ListN.{length, get_or, set, take, drop, drop_of_length-le}
use lib.Seq.{paste-suc, take_all}

module _ {A : Type 0} (s d : List A) where
  pub one_filled : (i : ℕ) (z : A) → i < length s → i < length d → set (take i s ++ drop i d) i (get_or s i z) ≡ take (i + 1) s ++ drop (i + 1) d
  one_filled i z h g =
      let g' : 0 + i < length d = omega arith in
      let e : 0 + suc i ≡ suc i = zero-add (suc i) in
      rw add-one (rw e at (rw (zero-add i) at (paste-suc d 0 s i z g' h)))

  pub all_filled : (i : ℕ) → length s ≤ i → length d ≤ i → take i s ++ drop i d ≡ s
  all_filled i h g = rw (take_all i s h, drop_of_length-le d g, append-nil)
