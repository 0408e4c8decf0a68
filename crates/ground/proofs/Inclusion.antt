-- Laws of masks, for any n: sets with the same members are equal; which sets are within another, or within 1..n.
use Rattle.std.specs.Prelude.{ℕ, zero, suc, ◌+◌, ◌*◌, ◌^◌, ◌/◌, ◌%◌, ◌≤◌, ◌<◌, ◌≡◌, refl, Bool, true, false, ◌||◌, eqb}
use Rattle.std.proofs.Common.{sym, ◌∙◌, ap, true≢false, div-lt_iff_lt-mul, mod-eq_of_lt, lt_of_lt_of_le, pow-suc, zero-add, suc-add, pow_pos, pow_mono, lt-ltb, eqb-true, eq-eqb, inl, inr}
use Rattle.std.proofs.lemmas.Bool.{false≢true, eqb-false}
use Rattle.std.proofs.Math.Bool.{or_assoc as or-assoc-bool}
use native.Mathlib.Omega.{arith}
use Rattle.std.proofs.Math.Decide.{dec_le}
use Rattle.std.proofs.Math.Nat.{div-eq_of_lt}
use Rattle.std.specs.Int.Bits.{bit_or}
use Rattle.ground.specs.Tests.{split, no_both, refuted, or_l}
use Rattle.ground.specs.Quantify.{any_to, all-at, any_at, any_of, Found}
use Rattle.ground.specs.Mask.{has, full_to, none_above, within}
use Rattle.ground.proofs.MaskLaws.{low-suc, has_or, has-none, full_is}

-- bits that no member has ---------------------------------------------------------

-- a number below 2 ^ n has no member above n
pub has-past : (n m k : ℕ) → m < 2 ^ n → n < k → has m k ≡ false
unfolding has
has-past n m zero h l = refl
has-past n m (suc k) h l = rw (div-eq_of_lt (lt_of_lt_of_le h (pow_mono {i = n} {j = k} (omega arith))))

-- so it does not hold all of more than n numbers
pub full-past : (w n m : ℕ) → m < 2 ^ w → w < n → full_to n m ≡ false
full-past w n m h l = elim (split (full_to n m)) [
  | inl e ↦ absurd (no_both (has m n) (all-at n (has m) (sym (full_is n m) ∙ e) n (omega arith) (omega arith)) (has-past w m n h l))
  | inr e ↦ e
]

-- and has no bit above any such n
pub none-above-past : (w n m : ℕ) → m < 2 ^ w → w ≤ n → none_above n m ≡ true
unfolding none_above
none-above-past w n m h l = lt-ltb m (2 ^ n) (lt_of_lt_of_le h (pow_mono {i = w} {j = n} l))

-- without its highest bit a number is below the next power of 2
drop-top : (n m : ℕ) → m < 2 ^ suc n → has m (suc n) ≡ false → m < 2 ^ n
unfolding has
drop-top n m h e =
    let h' : m < 2 * 2 ^ n = (let p : 2 ^ suc n ≡ 2 ^ n * 2 = pow-suc 2 n in omega arith) in
    let q : m / 2 ^ n < 2 = (div-lt_iff_lt-mul (pow_pos n)).1 h' in
    let ne : (m / 2 ^ n % 2 ≡ 1 → ⊥) = eqb-false (m / 2 ^ n % 2) 1 e in
    let z : m / 2 ^ n < 1 = omega (arith, ne) in
    let r : m < 1 * 2 ^ n = (div-lt_iff_lt-mul (pow_pos n)).0 z in
    omega arith

below : (w n m : ℕ) → m < 2 ^ (w + n) → ((k : ℕ) → has m k ≡ true → k ≤ n) → m < 2 ^ n
below zero n m h f = rw zero-add at h
below (suc w) n m h f = below w n m (drop-top (w + n) m (rw suc-add at h) top) f
  where
    top : has m (suc (w + n)) ≡ false
    top = elim (split (has m (suc (w + n)))) [
      | inl e ↦ absurd (omega (arith, f (suc (w + n)) e))
      | inr e ↦ e
    ]

self_lt : (m : ℕ) → m < 2 ^ m
self_lt zero = omega arith
self_lt (suc m) = let p : 2 ^ suc m ≡ 2 ^ m * 2 = pow-suc 2 m in omega (arith, self_lt m)

-- a set whose members are all at most n has no bit above n
pub le-none-above : (n m : ℕ) → ((k : ℕ) → has m k ≡ true → k ≤ n) → none_above n m ≡ true
unfolding none_above
le-none-above n m f = lt-ltb m (2 ^ n) (below m n m (lt_of_lt_of_le (self_lt m) (pow_mono {i = m} {j = m + n} (omega arith))) f)

-- equal sets -----------------------------------------------------------------------

same_bit : (x y : ℕ) → x < 2 → y < 2 → eqb x 1 ≡ eqb y 1 → x ≡ y
same_bit zero zero p q e = refl
same_bit zero (suc zero) p q e = absurd (false≢true e)
same_bit zero (suc (suc y)) p q e = absurd (omega arith)
same_bit (suc zero) zero p q e = absurd (true≢false e)
same_bit (suc zero) (suc zero) p q e = refl
same_bit (suc zero) (suc (suc y)) p q e = absurd (omega arith)
same_bit (suc (suc x)) y p q e = absurd (omega arith)

same_low : (a b : ℕ) → ((k : ℕ) → has a k ≡ has b k) → (n : ℕ) → a % 2 ^ n ≡ b % 2 ^ n
unfolding has
same_low a b h zero = omega arith
same_low a b h (suc n) =
    let top : a / 2 ^ n % 2 ≡ b / 2 ^ n % 2 = same_bit (a / 2 ^ n % 2) (b / 2 ^ n % 2) (omega arith) (omega arith) (h (suc n)) in
    low-suc a n ∙ (rw (top, same_low a b h n) (sym (low-suc b n)))

-- sets with the same members are equal
pub same_set : (a b : ℕ) → ((k : ℕ) → has a k ≡ has b k) → a ≡ b
same_set a b h =
    sym (mod-eq_of_lt (lt_of_lt_of_le (self_lt a) (pow_mono {i = a} {j = a + b} (omega arith))))
    ∙ (same_low a b h (a + b) ∙ mod-eq_of_lt (lt_of_lt_of_le (self_lt b) (pow_mono {i = b} {j = a + b} (omega arith))))

-- a set without members is 0, and any other number has one
pub empty-zero : (m : ℕ) → ((k : ℕ) → has m k ≡ false) → m ≡ 0
empty-zero m h = same_set m 0 (λ k. h k ∙ sym (has-none k))

pub some-member : (m : ℕ) → eqb m 0 ≡ false → Found m (has m)
some-member m e = elim (split (any_to m (has m))) [
  | inl q ↦ any_at m (has m) q
  | inr q ↦ absurd (eqb-false m 0 e (empty-zero m (λ k. refuted (has m k) (λ x. no_both (any_to m (has m)) (any_of m (has m) k (first k x) (low k x) x) q))))
]
  where
    first : (k : ℕ) → has m k ≡ true → 1 ≤ k
    first zero x = absurd (false≢true (unfold has in x))
    first (suc k) x = omega arith

    low : (k : ℕ) → has m k ≡ true → k ≤ m
    low k x = elim (dec_le k m) [ yes h ↦ h | no h ↦ absurd (no_both (has m k) x (has-past m m k (self_lt m) (omega arith))) ]

-- the union of three sets, in either grouping
pub or_assoc : (a b c : ℕ) → bit_or (bit_or a b) c ≡ bit_or a (bit_or b c)
or_assoc a b c =
    same_set (bit_or (bit_or a b) c) (bit_or a (bit_or b c)) (λ k.
    rw (has_or (bit_or a b) c k, has_or a b k, has_or a (bit_or b c) k, has_or b c k) (or-assoc-bool (has a k) (has b k) (has c k)))

-- inclusion ------------------------------------------------------------------------

or_absorbs : (x y : Bool) → (x ≡ true → y ≡ true) → (x || y) ≡ y
or_absorbs true y h = sym (h refl)
or_absorbs false y h = refl

-- each member of a set within another is a member of that
pub within_has : (a b : ℕ) → within a b ≡ true → (k : ℕ) → has a k ≡ true → has b k ≡ true
unfolding within
within_has a b w k e = ap (λ (m : ℕ). has m k) (sym (eqb-true (bit_or a b) b w)) ∙ (has_or a b k ∙ or_l (has a k) (has b k) e)

-- a set each of whose members is one of another is within that
pub has_within : (a b : ℕ) → ((k : ℕ) → has a k ≡ true → has b k ≡ true) → within a b ≡ true
unfolding within
has_within a b h = eq-eqb (bit_or a b) b (same_set (bit_or a b) b (λ k. has_or a b k ∙ or_absorbs (has a k) (has b k) (h k)))
