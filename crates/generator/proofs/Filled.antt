-- A text that is as long as its buffer fills it.
use Prim.Native.Nat.{ℕ}
use mathlib.Core.Path.{◌≡◌, sym, ◌∙◌}
use mathlib.Core.List.{List}
use native.Mathlib.Omega.{arith}
use lib.ListN.{length, take}
use lib.Seq.{take_all}
use Rattle.text.specs.Writing.{Put}
use Rattle.text.specs.WritingLaws.{put-length, read-front}

pub filled_by : {l m : List ℕ} {r : ℕ} {text : List ℕ} → length l ≡ length text → Put l m 0 r text → m ≡ text
filled_by {l} {m} {r} {text} e p =
    let front : (r ≡ length text) × (take r m ≡ text) = read-front (omega arith) p in
    let same : length m ≡ length l = put-length p in
    sym (take_all r m (omega (arith, front.0))) ∙ front.1
