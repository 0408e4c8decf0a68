-- Sets of controllers as 32-bit masks. Document 01, "Records": "Bit k − 1, counted from the lowest, is controller k."
use Rattle.std.specs.Prelude.{ℕ, zero, suc, ◌-◌, ◌^◌, ◌/◌, ◌%◌, Bool, true, false, cond, eqb, ltb}
use Rattle.std.specs.Int.Bits.{bit_and, bit_or, bit_xor}

-- the bits of a mask
abbrev pub width : ℕ
width = 32

-- is controller k in the set
unfoldable pub has : ℕ → ℕ → Bool
has m zero = false
has m (suc k) = eqb (m / 2 ^ k % 2) 1

-- the set with controller k; a number that has no bit leaves it as it is
unfoldable pub insert : ℕ → ℕ → ℕ
insert m zero = m
insert m (suc k) = cond (ltb k width) (bit_or m (2 ^ k)) m

-- the set without controller k
unfoldable pub remove : ℕ → ℕ → ℕ
remove m k = bit_and m (bit_xor m (insert 0 k))

-- does the set hold all of 1..n
unfoldable pub full_to : ℕ → ℕ → Bool
full_to n m = eqb (m % 2 ^ n) (2 ^ n - 1)

-- has the set no controller above n
unfoldable pub none_above : ℕ → ℕ → Bool
none_above n m = ltb m (2 ^ n)

-- is every controller of a in b
unfoldable pub within : ℕ → ℕ → Bool
within a b = eqb (bit_or a b) b

-- the set of those of 1..n that pass a test
unfoldable pub collect : ℕ → (ℕ → Bool) → ℕ
collect zero p = 0
collect (suc m) p = cond (p (suc m)) (insert (collect m p) (suc m)) (collect m p)

-- the set of 1..n, as far as masks have bits
unfoldable pub up_to : ℕ → ℕ
up_to n = collect n (λ k. true)
