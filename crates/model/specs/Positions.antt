-- Positions: held and written as 32-bit two's complement, meant as millimetres.
use Rattle.std.specs.Prelude.{ℕ, ◌-◌, ◌^◌, Bool, cond, leb, ltb, ℤ, pos, negsuc}

-- the millimetres that a number of 32 bits stands for: from 2³¹ on it is p − 2³²; negsuc d is −(d + 1)
unfoldable pub millimetres : ℕ → ℤ
millimetres p = cond (ltb p (2 ^ 31)) (pos p) (negsuc (2 ^ 32 - 1 - p))

-- "Positions are −20,000 to 20,000 mm"
unfoldable pub in_range : ℤ → Bool
in_range (pos d) = leb d 20000
in_range (negsuc d) = ltb d 20000
