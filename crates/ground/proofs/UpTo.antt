-- Laws of masks by the bits that they have, for any n: equal masks, who is collected, the set of 1..n, and what of a set is in it.
use Rattle.std.specs.Prelude.{ℕ, zero, suc, ◌^◌, ◌-◌, ◌≤◌, ◌<◌, ◌≡◌, Bool, true, false, not, ◌&&◌, eqb, leb}
use Rattle.std.proofs.Math.Path.{refl, sym}
use Rattle.std.proofs.Common.{◌∙◌, arith, mod-eq_of_lt, lt_of_lt_of_le, pow_mono}
use Rattle.std.proofs.Math.Bool.{and-true}
use Rattle.std.proofs.Math.Decide.{dec_le}
use Rattle.std.proofs.Math.Nat.{lt_of_le_of_lt}
use Rattle.std.proofs.Math.Pow.{ones_lt}
use Rattle.std.specs.Int.Bits.{bit_and, bit_xor}
use Rattle.std.proofs.lemmas.Nat.{and_le_l, and_le_r}
use borrow.Author.Tests.{eq-eqb, lt-leb, le-leb}
use Rattle.ground.specs.Quantify.{all-at}
use Rattle.ground.specs.Mask.{width, has, insert, remove, full_to, collect, up_to}
use Rattle.ground.proofs.MaskLaws.{has_and, has-remove-low, full_is}
use Rattle.ground.proofs.Inclusion.{has-past, same_set}
use Rattle.ground.proofs.Collect.{collect-past, collect-at, collect_fits}

-- masks with the same members are equal
same-mask : (a b : ℕ) → a < 2 ^ width → b < 2 ^ width → ((k : ℕ) → 1 ≤ k → k ≤ width → has a k ≡ has b k) → a ≡ b
same-mask a b p q h = same_set a b each
  where
    each : (k : ℕ) → has a k ≡ has b k
    each zero = unfold has in refl
    each (suc k) = elim (dec_le (suc k) width) [
      | yes w ↦ h (suc k) (omega arith) w
      | no w ↦ has-past width a (suc k) p (omega arith) ∙ sym (has-past width b (suc k) q (omega arith))
    ]

-- who is in the set of those of 1..n that pass, for any n
collect-low : (n : ℕ) (p : ℕ → Bool) (k : ℕ) → 1 ≤ k → k ≤ width → has (collect n p) k ≡ (leb k n && p k)
collect-low n p k a w = elim (dec_le k n) [
  | yes h ↦ rw (collect-at n p k w a h, le-leb k n h)
  | no h ↦ rw (collect-past n p k (omega arith), lt-leb k n (omega arith))
]

-- tests that agree on those of 1..n that have a bit collect the same
pub collect-same : (n : ℕ) (p q : ℕ → Bool) → ((k : ℕ) → 1 ≤ k → k ≤ width → k ≤ n → p k ≡ q k) → collect n p ≡ collect n q
collect-same n p q h = same-mask (collect n p) (collect n q) (collect_fits n p) (collect_fits n q) each
  where
    each : (k : ℕ) → 1 ≤ k → k ≤ width → has (collect n p) k ≡ has (collect n q) k
    each k a w = elim (dec_le k n) [
      | yes l ↦ collect-at n p k w a l ∙ (h k a w l ∙ sym (collect-at n q k w a l))
      | no l ↦ collect-past n p k (omega arith) ∙ sym (collect-past n q k (omega arith))
    ]

-- a test that nobody passes
pub collect_nobody : (n : ℕ) (p : ℕ → Bool) → ((k : ℕ) → p k ≡ false) → collect n p ≡ 0
unfolding collect
collect_nobody zero p h = refl
collect_nobody (suc n) p h = rw (h (suc n)) (collect_nobody n p h)

-- the set of 1..n ------------------------------------------------------------------

-- who is in it
pub has-up-to : (n k : ℕ) → 1 ≤ k → k ≤ width → has (up_to n) k ≡ leb k n
unfolding up_to
has-up-to n k a w = collect-low n (λ k. true) k a w ∙ and-true (leb k n)

-- it is a mask
up_to_fits : (n : ℕ) → up_to n < 2 ^ width
unfolding up_to
up_to_fits n = collect_fits n (λ k. true)

-- 2 ^ n − 1 has the lowest n bits
has_ones : (n k : ℕ) → 1 ≤ k → has (2 ^ n - 1) k ≡ leb k n
has_ones n k a = elim (dec_le k n) [
  | yes h ↦ rw (le-leb k n h) (all-at n (has (2 ^ n - 1)) (sym (full_is n (2 ^ n - 1)) ∙ full) k a h)
  | no h ↦ rw (lt-leb k n (omega arith)) (has-past n (2 ^ n - 1) k (ones_lt n) (omega arith))
]
  where
    full : full_to n (2 ^ n - 1) ≡ true
    full = unfold full_to in eq-eqb _ _ (mod-eq_of_lt (ones_lt n))

-- as the code computes it
pub up-to_ones : (n : ℕ) → n ≤ width → up_to n ≡ 2 ^ n - 1
up-to_ones n w =
    same-mask (up_to n) (2 ^ n - 1) (up_to_fits n) (lt_of_lt_of_le (ones_lt n) (pow_mono {i = n} {j = width} w)) (λ k a b.
    has-up-to n k a b ∙ sym (has_ones n k a))

pub up-to_wide : (n : ℕ) → width ≤ n → up_to n ≡ 2 ^ width - 1
up-to_wide n w =
    same-mask (up_to n) (2 ^ width - 1) (up_to_fits n) (ones_lt width) (λ k a b.
    rw (has-up-to n k a b, has_ones width k a, le-leb k n (omega arith), le-leb k width b))

-- those of a set that are of 1..n, without one of them
pub others_are : (n m i : ℕ) → remove (bit_and m (up_to n)) i ≡ collect n (λ k. not (eqb i k) && has m k)
others_are n m i =
    same-mask (remove (bit_and m (up_to n)) i) (collect n (λ k. not (eqb i k) && has m k)) small (collect_fits n _) (λ k a b.
    rw (has-remove-low (bit_and m (up_to n)) i k a b, has_and m (up_to n) k, has-up-to n k a b)
    (turned (not (eqb i k)) (has m k) (leb k n) ∙ sym (collect-low n (λ k. not (eqb i k) && has m k) k a b)))
  where
    small : remove (bit_and m (up_to n)) i < 2 ^ width
    small = unfold remove in lt_of_le_of_lt (and_le_l (bit_and m (up_to n)) (bit_xor (bit_and m (up_to n)) (insert 0 i)))
        (lt_of_le_of_lt (and_le_r m (up_to n)) (up_to_fits n))

    turned : (x y z : Bool) → (x && (y && z)) ≡ (z && (x && y))
    turned true true true = refl
    turned true true false = refl
    turned true false true = refl
    turned true false false = refl
    turned false y true = refl
    turned false y false = refl
