-- Question 11 as it is asked, of two's complement, is the document's question of millimetres.
use Rattle.std.specs.Prelude.{ℕ, ◌-◌, ◌^◌, ◌≤◌, ◌<◌, ◌≡◌, leb, ltb}
use Rattle.std.proofs.Math.Bool.{or-false}
use Rattle.std.proofs.Common.{arith, ltb-true, ltb-false, lt-ltb, le-leb, leb-true, inl, inr}
use Rattle.std.proofs.lemmas.Bool.{lt-leb}
use Rattle.ground.specs.Tests.{split, same_test}
use Rattle.model.specs.Ranges.{position_in_range}
use Rattle.model.specs.Positions.{millimetres, in_range}

-- the lower end, as two's complement and as millimetres
low_end : (p : ℕ) → 2 ^ 31 ≤ p → p < 2 ^ 32 → leb 4294947296 p ≡ ltb (2 ^ 32 - 1 - p) 20000
low_end p l h =
    same_test (leb 4294947296 p) (ltb (2 ^ 32 - 1 - p) 20000)
    (λ t. let e : 4294947296 ≤ p = leb-true 4294947296 p t in lt-ltb (2 ^ 32 - 1 - p) 20000 (omega arith))
    (λ t. let e : 2 ^ 32 - 1 - p < 20000 = ltb-true (2 ^ 32 - 1 - p) 20000 t in le-leb 4294947296 p (omega arith))

pub position_in_range-is : (p : ℕ) → p < 2 ^ 32 → position_in_range p ≡ in_range (millimetres p)
unfolding position_in_range in_range millimetres
position_in_range-is p h = elim (split (ltb p (2 ^ 31))) [
  | inl t ↦ let e : p < 2 ^ 31 = ltb-true p (2 ^ 31) t in rw (t, lt-leb 4294947296 p (omega arith)) (or-false (leb p 20000))
  | inr t ↦ let e : 2 ^ 31 ≤ p = ltb-false p (2 ^ 31) t in rw (t, lt-leb p 20000 (omega arith)) (low_end p e h)
]
