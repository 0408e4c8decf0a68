-- An integer as the difference of two natural numbers, so that order and difference of integers become facts of natural numbers.
use Rattle.std.specs.Prelude.{◌≡◌, ℕ, zero, suc, ◌+◌, ◌-◌, ◌<◌, ◌≤◌, Bool, true, false, T, ℤ, pos, negsuc, ◌-ℤ◌, int_le, int_lt, nat_lt, refl}
use Rattle.std.proofs.Common.{sym, subst, true≢false, arith, leb→le, le→leb, ltb→lt, lt→ltb, ltb-true, ltb-false, leb-false}
use Rattle.std.proofs.Math.IntN.{sub_ℕ}
use Rattle.ground.specs.Tests.{by_cond}

-- z is plus z − less z
abbrev pub plus : ℤ → ℕ
plus (pos n) = n
plus (negsuc n) = 0

abbrev pub less : ℤ → ℕ
less (pos n) = 0
less (negsuc n) = n + 1

-- two differences in order
abbrev pub Below : ℤ → ℤ → Type 0
Below a b = plus a + less b ≤ plus b + less a

abbrev pub Strictly : ℤ → ℤ → Type 0
Strictly a b = plus a + less b < plus b + less a

pub le_of : (a b : ℤ) → T (int_le a b) → Below a b
le_of (pos a) (pos b) t = omega (arith, leb→le a b t)
le_of (pos a) (negsuc b) t = absurd t
le_of (negsuc a) (pos b) t = omega arith
le_of (negsuc a) (negsuc b) t = omega (arith, leb→le b a t)

pub le-to : (a b : ℤ) → Below a b → T (int_le a b)
le-to (pos a) (pos b) h = le→leb a b (omega arith)
le-to (pos a) (negsuc b) h = absurd (omega arith)
le-to (negsuc a) (pos b) h = tt
le-to (negsuc a) (negsuc b) h = le→leb b a (omega arith)

lt_of : (a b : ℤ) → T (int_lt a b) → Strictly a b
lt_of (pos a) (pos b) t = omega (arith, ltb→lt a b t)
lt_of (pos a) (negsuc b) t = absurd t
lt_of (negsuc a) (pos b) t = omega arith
lt_of (negsuc a) (negsuc b) t = omega (arith, ltb→lt b a t)

lt-to : (a b : ℤ) → Strictly a b → T (int_lt a b)
lt-to (pos a) (pos b) h = lt→ltb a b (omega arith)
lt-to (pos a) (negsuc b) h = absurd (omega arith)
lt-to (negsuc a) (pos b) h = tt
lt-to (negsuc a) (negsuc b) h = lt→ltb b a (omega arith)

-- d is a − b
abbrev pub Difference : ℤ → ℕ → ℕ → Type 0
Difference d a b = plus d + b ≡ less d + a

pub difference : (a b : ℕ) → Difference (sub_ℕ a b) a b
difference a b = by_cond (λ (d : ℤ). Difference d a b) (nat_lt a b) (negsuc (b - suc a)) (pos (a - b))
    (λ t. let h : a < b = ltb-true a b t in omega arith)
    (λ t. let h : b ≤ a = ltb-false a b t in omega arith)

pub minus_is : (a b : ℤ) → Difference (a -ℤ b) (plus a + less b) (less a + plus b)
minus_is (pos a) (pos zero) = omega arith
minus_is (pos a) (pos (suc b)) = omega (arith, difference a (suc b))
minus_is (pos a) (negsuc b) = omega arith
minus_is (negsuc a) (pos zero) = omega (arith, difference 0 (suc a))
minus_is (negsuc a) (pos (suc b)) = omega arith
minus_is (negsuc a) (negsuc b) = omega (arith, difference (suc b) (suc a))

-- a test that failed
pub not_lt : (a b : ℤ) → int_lt a b ≡ false → Below b a
not_lt (pos a) (pos b) e = omega (arith, ltb-false a b e)
not_lt (pos a) (negsuc b) e = omega arith
not_lt (negsuc a) (pos b) e = absurd (true≢false e)
not_lt (negsuc a) (negsuc b) e = omega (arith, ltb-false b a e)

pub not_le : (a b : ℤ) → int_le a b ≡ false → Below b a
not_le (pos a) (pos b) e = omega (arith, leb-false a b e)
not_le (pos a) (negsuc b) e = omega arith
not_le (negsuc a) (pos b) e = absurd (true≢false e)
not_le (negsuc a) (negsuc b) e = omega (arith, leb-false b a e)

-- and one that held
pub lt-true : (a b : ℤ) → int_lt a b ≡ true → Strictly a b
lt-true a b e = lt_of a b (subst T (sym e) tt)

pub le-true : (a b : ℤ) → int_le a b ≡ true → Below a b
le-true a b e = le_of a b (subst T (sym e) tt)

is_true : (b : Bool) → T b → b ≡ true
is_true true t = refl
is_true false t = absurd t

pub lt-holds : (a b : ℤ) → Strictly a b → int_lt a b ≡ true
lt-holds a b h = is_true (int_lt a b) (lt-to a b h)

pub le-holds : (a b : ℤ) → Below a b → int_le a b ≡ true
le-holds a b h = is_true (int_le a b) (le-to a b h)
