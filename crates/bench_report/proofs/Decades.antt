-- Lines in parts: what they are together, how far they reach.
use Prim.Native.Nat.{ℕ, zero, suc, ◌+◌, ◌*◌, ◌≤◌}
use mathlib.Core.List.{List, ◌++◌, append_assoc, append-nil}
use mathlib.Core.Path.{◌≡◌}
use native.Mathlib.Nat.{add-zero, add-suc}
use native.Mathlib.Omega.{arith}
use lib.ListN.{length}
use Rattle.text.specs.Text.{lines}
use Rattle.text.specs.Lengths.{lines-length}
use Rattle.text.specs.Writing.{Put}
use Rattle.text.specs.WritingLaws.{put_then, put-text}

lines_then : (h n : ℕ) (at : ℕ → List ℕ) → lines h at ++ lines n (λ k. at (h + k)) ≡ lines (h + n) at
unfolding lines
lines_then h zero at = rw (add-zero, append-nil)
lines_then h (suc n) at = rw (add-suc, ← append_assoc, lines_then h n at)

-- some lines, and the lines after them
pub put-more : {l m o : List ℕ} {i j k : ℕ} (h n : ℕ) (at : ℕ → List ℕ) → Put l m i j (lines h at) → Put m o j k (lines n (λ k. at (h + k))) → Put l o i k (lines (h + n) at)
put-more h n at p q = put-text (put_then p q) (lines_then h n at)

-- lines of at most w bytes
pub reach : {l m : List ℕ} {i j : ℕ} (w h : ℕ) (at : ℕ → List ℕ) → ((k : ℕ) → length (at k) ≤ w) → Put l m i j (lines h at) → j ≤ i + h * w
reach w h at b p = let q : length (lines h at) ≤ h * w = lines-length w h at b in omega (arith, p.place)
