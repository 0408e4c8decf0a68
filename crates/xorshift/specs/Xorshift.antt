-- Marsaglia's 32-bit xorshift. Document 02, U6: "It uses Marsaglia's 32-bit xorshift, shifts 13 left, 17 right, 5 left".
use Rattle.std.specs.Prelude.{ℕ, zero, suc, ◌*◌, ◌/◌, ◌%◌, ◌^◌}
use Rattle.std.specs.Int.Bits.{bit_xor}

-- x ^ (x << k): what is shifted out of the 32 bits is lost
abbrev pub left_step : ℕ → ℕ → ℕ
left_step k x = bit_xor x (x * 2 ^ k % 2 ^ 32)

-- x ^ (x >> k)
abbrev pub right_step : ℕ → ℕ → ℕ
right_step k x = bit_xor x (x / 2 ^ k)

-- the draw after a state; it is the next state too
unfoldable pub draw : ℕ → ℕ
draw x = left_step 5 (right_step 17 (left_step 13 x))

-- the state after so many draws
abbrev pub drawn_on : ℕ → ℕ → ℕ
drawn_on zero x = x
drawn_on (suc k) x = drawn_on k (draw x)
