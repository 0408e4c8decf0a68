-- Decimal numbers as the code writes them: the last digit after the others, and the sign first.
use Prim.Native.Nat.{ℕ, zero, suc, ◌+◌, ◌*◌, ◌-◌, ◌/◌, ◌%◌, ◌^◌, ◌≤◌, ◌<◌}
use mathlib.Core.List.{[], ◌∷◌, ◌++◌}
use mathlib.Core.Path.{◌≡◌, ◌∙◌}
use native.Mathlib.Nat.{pow-suc}
use native.Mathlib.Omega.{arith}
use borrow.Author.Tests.{lt-ltb, le-ltb}
use Rattle.text.specs.Text.{ascii, digit, digits, decimal, signed}

div_lt : (v k : ℕ) → v < 10 ^ suc (suc k) → v / 10 < 10 ^ suc k
div_lt v k h = let q : v < 10 ^ suc k * 10 = rw pow-suc at h in omega arith

-- where k + 1 digits are enough, one more changes nothing
digits-enough : (k v : ℕ) → v < 10 ^ suc k → digits (suc k) v ≡ digits (suc (suc k)) v
unfolding digits
digits-enough zero v h = let e : v < 10 = h in rw (lt-ltb v 10 e)
digits-enough (suc k) v h = rw (digits-enough k (v / 10) (div_lt v k h))

pub decimal-one : (v : ℕ) → v < 10 → decimal v ≡ digit v ∷ []
unfolding decimal digits
decimal-one v h = rw (lt-ltb v 10 h)

digits_more : (k v : ℕ) → 10 ≤ v → digits (suc k) v ≡ digits k (v / 10) ++ (digit (v % 10) ∷ [])
unfolding digits
digits_more k v h = rw (le-ltb v 10 h)

pub decimal-more : (v : ℕ) → 10 ≤ v → v < 2 ^ 32 → decimal v ≡ decimal (v / 10) ++ (digit (v % 10) ∷ [])
unfolding decimal
decimal-more v g h = let e : v / 10 < 10 ^ 9 = omega arith in digits_more 9 v g ∙ rw (digits-enough 8 (v / 10) e)

-- the sign
pub signed-plus : (v : ℕ) → v < 2 ^ 31 → decimal v ≡ signed v
unfolding signed
signed-plus v h = rw (lt-ltb v (2 ^ 31) h)

pub signed-minus : (v : ℕ) → 2 ^ 31 ≤ v → v < 2 ^ 32 → ascii "-" ++ decimal (2 ^ 32 - 1 - v + 1) ≡ signed v
unfolding signed
signed-minus v h g = let e : 2 ^ 32 - 1 - v + 1 ≡ 2 ^ 32 - v = omega arith in rw (le-ltb v (2 ^ 31) h, e)
