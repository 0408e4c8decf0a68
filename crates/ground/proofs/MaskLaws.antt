-- Laws of masks, for any n: what is in a union, in a set with one more, in a full set.
use Rattle.std.specs.Prelude.{ℕ, zero, suc, ◌+◌, ◌*◌, ◌^◌, ◌/◌, ◌%◌, ◌-◌, ◌≤◌, ◌<◌, min, max, ◌≡◌, refl, Bool, true, false, not, ◌&&◌, ◌||◌, cond, eqb, ltb, ◌⊎◌}
use Rattle.std.proofs.Common.{sym, ◌∙◌, arith, mod-lt, pow-suc, one-add, pow_pos, pow-add, le-ltb, eqb-true, ne_eqb, eq-eqb, lt-ltb, inl, inr}
use Rattle.std.proofs.Math.Bool.{or-false}
use Rattle.std.proofs.Math.Nat.{div_self, div-eq_of_lt}
use Rattle.std.proofs.Math.Pow.{pow-lt}
use Rattle.std.proofs.lemmas.Nat.{shl-shr, mod-pow-add, and_shr, or_shr, xor_shr}
use Rattle.std.proofs.Math.Decide.{dec_le, ℕ_discrete}
use Rattle.std.specs.Int.Bits.{bit_and, bit_or, bit_xor, differ, and_step, or_step, xor_step}
use Rattle.ground.specs.Tests.{no_both, by_cond, and_l, and_r, and_i, or-e, or_l, eqb_same, same_test}
use Rattle.ground.specs.Quantify.{all_to}
use Rattle.ground.specs.Update.{upd, upd_same, fun_ext}
use Rattle.ground.specs.Mask.{width, has, insert, remove, full_to}

-- as the code reads it
pub has-at : (m k : ℕ) → 1 ≤ k → has m k ≡ eqb (m / 2 ^ (k - 1) % 2) 1
unfolding has
has-at m zero h = absurd (omega arith)
has-at m (suc k) h = let e : suc k - 1 ≡ k = omega arith in rw e

pub insert-at : (m k : ℕ) → 1 ≤ k → k ≤ width → insert m k ≡ bit_or m (2 ^ (k - 1))
unfolding insert
insert-at m zero h w = absurd (omega arith)
insert-at m (suc k) h w = let e : suc k - 1 ≡ k = omega arith in rw (lt-ltb k width w, e)

-- a number that has no bit leaves the set as it is
pub insert-zero : (m : ℕ) → insert m 0 ≡ m
unfolding insert
insert-zero m = refl

pub insert-past : (m k : ℕ) → width < k → insert m k ≡ m
unfolding insert
insert-past m zero h = refl
insert-past m (suc k) h = rw (le-ltb k width (omega arith))

-- a number below 2 is 0 or 1
or_test : (x y : ℕ) → x < 2 → y < 2 → eqb (max x y) 1 ≡ (eqb x 1 || eqb y 1)
or_test zero zero p q = refl
or_test zero (suc zero) p q = refl
or_test zero (suc (suc y)) p q = absurd (omega arith)
or_test (suc zero) zero p q = refl
or_test (suc zero) (suc zero) p q = refl
or_test (suc zero) (suc (suc y)) p q = absurd (omega arith)
or_test (suc (suc x)) y p q = absurd (omega arith)

low_or : (a b : ℕ) → bit_or a b % 2 ≡ max (a % 2) (b % 2)
low_or a b = let e : bit_or a b ≡ bit_or (a / 2) (b / 2) * 2 + max (a % 2) (b % 2) = or_step a b in omega arith

-- in a union is who is in either
pub has_or : (a b k : ℕ) → has (bit_or a b) k ≡ (has a k || has b k)
unfolding has
has_or a b zero = refl
has_or a b (suc k) = rw (or_shr a b k, low_or (a / 2 ^ k) (b / 2 ^ k)) (or_test (a / 2 ^ k % 2) (b / 2 ^ k % 2) (omega arith) (omega arith))

-- the two digits alike
and_test : (x y : ℕ) → x < 2 → y < 2 → eqb (min x y) 1 ≡ (eqb x 1 && eqb y 1)
and_test zero zero p q = refl
and_test zero (suc zero) p q = refl
and_test zero (suc (suc y)) p q = absurd (omega arith)
and_test (suc zero) zero p q = refl
and_test (suc zero) (suc zero) p q = refl
and_test (suc zero) (suc (suc y)) p q = absurd (omega arith)
and_test (suc (suc x)) y p q = absurd (omega arith)

low_and : (a b : ℕ) → bit_and a b % 2 ≡ min (a % 2) (b % 2)
low_and a b = let e : bit_and a b ≡ bit_and (a / 2) (b / 2) * 2 + min (a % 2) (b % 2) = and_step a b in omega arith

-- in both is who is in each
pub has_and : (a b k : ℕ) → has (bit_and a b) k ≡ (has a k && has b k)
unfolding has
has_and a b zero = refl
has_and a b (suc k) = rw (and_shr a b k, low_and (a / 2 ^ k) (b / 2 ^ k)) (and_test (a / 2 ^ k % 2) (b / 2 ^ k % 2) (omega arith) (omega arith))

xor_test : (x y : ℕ) → x < 2 → y < 2 → eqb (differ x y) 1 ≡ cond (eqb y 1) (not (eqb x 1)) (eqb x 1)
xor_test zero zero p q = refl
xor_test zero (suc zero) p q = refl
xor_test zero (suc (suc y)) p q = absurd (omega arith)
xor_test (suc zero) zero p q = refl
xor_test (suc zero) (suc zero) p q = refl
xor_test (suc zero) (suc (suc y)) p q = absurd (omega arith)
xor_test (suc (suc x)) y p q = absurd (omega arith)

differ-less : (x y : ℕ) → x < 2 → y < 2 → differ x y < 2
differ-less zero zero p q = omega arith
differ-less zero (suc zero) p q = omega arith
differ-less zero (suc (suc y)) p q = absurd (omega arith)
differ-less (suc zero) zero p q = omega arith
differ-less (suc zero) (suc zero) p q = omega arith
differ-less (suc zero) (suc (suc y)) p q = absurd (omega arith)
differ-less (suc (suc x)) y p q = absurd (omega arith)

low_xor : (a b : ℕ) → bit_xor a b % 2 ≡ differ (a % 2) (b % 2)
low_xor a b =
    let e : bit_xor a b ≡ bit_xor (a / 2) (b / 2) * 2 + differ (a % 2) (b % 2) = xor_step a b in
    let l : differ (a % 2) (b % 2) < 2 = differ-less (a % 2) (b % 2) (omega arith) (omega arith) in
    omega arith

-- in just one is who is in the first or the second and not in both
pub has_xor : (a b k : ℕ) → has (bit_xor a b) k ≡ cond (has b k) (not (has a k)) (has a k)
unfolding has
has_xor a b zero = refl
has_xor a b (suc k) = rw (xor_shr a b k, low_xor (a / 2 ^ k) (b / 2 ^ k)) (xor_test (a / 2 ^ k % 2) (b / 2 ^ k % 2) (omega arith) (omega arith))

-- nobody is in 0
pub has-none : (k : ℕ) → has 0 k ≡ false
unfolding has
has-none zero = refl
has-none (suc k) = rw (div-eq_of_lt (pow_pos k))

pub none_has : {X : Type 0} (k : ℕ) → has 0 k ≡ true → X
none_has k e = absurd (no_both (has 0 k) e (has-none k))

-- 2 ^ j has the one bit j
pow_low : (j : ℕ) → 2 ^ suc j % 2 ≡ 0
pow_low j = omega arith

bit-same : (j : ℕ) → 2 ^ j / 2 ^ j % 2 ≡ 1
bit-same j = rw (div_self (pow_pos j))

bit-less : (j k : ℕ) → j < k → 2 ^ j / 2 ^ k % 2 ≡ 0
bit-less j k h = rw (div-eq_of_lt (pow-lt h))

bit-more : (j k : ℕ) → 2 ^ (suc j + k) / 2 ^ k % 2 ≡ 0
bit-more j k = rw (pow-add 2 (suc j) k, shl-shr (2 ^ suc j) k) (pow_low j)

has-pow : (i k : ℕ) → has (2 ^ i) k ≡ eqb k (suc i)
unfolding has
has-pow i zero = sym (ne_eqb 0 (suc i) (λ e. omega arith))
has-pow i (suc k) = elim (ℕ_discrete k i) [
  | yes e ↦ rw (e, bit-same i, eqb_same (suc i))
  | no e ↦ rw (ne_eqb (suc k) (suc i) (λ q. e (omega arith))) (elim (dec_le (suc k) i) [
    | yes h ↦ let e' : i ≡ suc (i - suc k) + k = omega arith in rw (e', bit-more (i - suc k) k)
    | no h ↦ rw (bit-less i k (omega arith))
  ])
]

or_eqb : (x y : Bool) → (x || y) ≡ cond y true x
or_eqb true true = refl
or_eqb true false = refl
or_eqb false true = refl
or_eqb false false = refl

-- as functions, the set with i is the set changed at i
pub has-insert : (m i k : ℕ) → 1 ≤ i → i ≤ width → has (insert m i) k ≡ upd (has m) i true k
unfolding insert upd
has-insert m zero k a b = absurd (omega arith)
has-insert m (suc i) k a b = rw (lt-ltb i width (omega arith), has_or m (2 ^ i) k, has-pow i k) (or_eqb (has m k) (eqb k (suc i)))

pub insert-is : (m i : ℕ) → 1 ≤ i → i ≤ width → has (insert m i) ≡ upd (has m) i true
insert-is m i a b = fun_ext (has (insert m i)) (upd (has m) i true) (λ k. has-insert m i k a b)

-- the one put in is there
pub insert-own : (m i : ℕ) → 1 ≤ i → i ≤ width → has (insert m i) i ≡ true
insert-own m i a b = has-insert m i i a b ∙ upd_same (has m) i true

-- and all that were there stay
pub insert-keeps : (m i k : ℕ) → has m k ≡ true → has (insert m i) k ≡ true
unfolding insert
insert-keeps m zero k e = e
insert-keeps m (suc i) k e =
    by_cond (λ (x : ℕ). has x k ≡ true) (ltb i width) (bit_or m (2 ^ i)) m
    (λ _. has_or m (2 ^ i) k ∙ or_l (has m k) (has (2 ^ i) k) e)
    (λ _. e)

-- no other comes in
pub insert_only : (m i k : ℕ) → has (insert m i) k ≡ true → (k ≡ i) ⊎ (has m k ≡ true)
unfolding insert
insert_only m zero k e = inr e
insert_only m (suc i) k e =
    by_cond (λ (x : ℕ). has x k ≡ true → (k ≡ suc i) ⊎ (has m k ≡ true)) (ltb i width) (bit_or m (2 ^ i)) m
    (λ _ q. either (or-e (has m k) (has (2 ^ i) k) (sym (has_or m (2 ^ i) k) ∙ q)))
    (λ _ q. inr q)
    e
  where
    either : (has m k ≡ true) ⊎ (has (2 ^ i) k ≡ true) → (k ≡ suc i) ⊎ (has m k ≡ true)
    either (inl q) = inr q
    either (inr q) = inl (eqb-true k (suc i) (sym (has-pow i k) ∙ q))

-- and no other is changed
pub insert-other : (m i k : ℕ) → (k ≡ i → ⊥) → has (insert m i) k ≡ has m k
unfolding insert
insert-other m zero k d = refl
insert-other m (suc i) k d =
    by_cond (λ (x : ℕ). has x k ≡ has m k) (ltb i width) (bit_or m (2 ^ i)) m
    (λ _. has_or m (2 ^ i) k ∙ rw (has-pow i k, ne_eqb k (suc i) d) (or-false (has m k)))
    (λ _. refl)

-- whom the set of one alone has, any set has with that one
pub insert-from : (m i k : ℕ) → has (insert 0 i) k ≡ true → has (insert m i) k ≡ true
insert-from m i k e = elim (insert_only 0 i k e) [
  | inr q ↦ none_has k q
  | inl q ↦ rw q (own i (rw q at e))
]
  where
    own : (i : ℕ) → has (insert 0 i) i ≡ true → has (insert m i) i ≡ true
    own zero h = absurd (no_both (has (insert 0 0) 0) h (unfold has in refl))
    own (suc i) h = elim (dec_le (suc i) width) [
      | yes w ↦ insert-own m (suc i) (omega arith) w
      | no w ↦ absurd (no_both (has (insert 0 (suc i)) (suc i)) h (rw (insert-past 0 (suc i) (omega arith)) (has-none (suc i))))
    ]

-- as functions, the set without i is the set changed at i
pub has-remove : (m i k : ℕ) → 1 ≤ i → i ≤ width → has (remove m i) k ≡ upd (has m) i false k
unfolding remove upd
has-remove m i k a b = rw (has_and m (bit_xor m (insert 0 i)) k, has_xor m (insert 0 i) k, has-insert 0 i k a b, has-none k) (without (has m k) (eqb k i))
  where
    without : (x y : Bool) → (x && cond (cond y true false) (not x) x) ≡ cond y false x
    without true true = refl
    without true false = refl
    without false true = refl
    without false false = refl

-- and for any i, as far as masks have bits
pub has-remove-low : (m i k : ℕ) → 1 ≤ k → k ≤ width → has (remove m i) k ≡ (not (eqb i k) && has m k)
unfolding remove
has-remove-low m i k a b = rw (has_and m (bit_xor m (insert 0 i)) k, has_xor m (insert 0 i) k, alone) (without (has m k) (eqb i k))
  where
    alone : has (insert 0 i) k ≡ eqb i k
    alone = elim (ℕ_discrete k i) [
      | yes e ↦ rw (← e, insert-own 0 k a b, eqb_same k)
      | no e ↦ rw (insert-other 0 i k e, has-none k, ne_eqb i k (λ q. e (sym q)))
    ]

    without : (x y : Bool) → (x && cond y (not x) x) ≡ (not y && x)
    without true true = refl
    without true false = refl
    without false true = refl
    without false false = refl

-- the lowest n bits, one more
pub low-suc : (m n : ℕ) → m % 2 ^ (suc n) ≡ m / 2 ^ n % 2 * 2 ^ n + m % 2 ^ n
low-suc m n = rw one-add at (mod-pow-add m 1 n)

top_one : (b p r : ℕ) → b < 2 → r < p → b * p + r ≡ p * 2 - 1 → b ≡ 1
top_one zero p r hb hr e = omega arith
top_one (suc zero) p r hb hr e = refl
top_one (suc (suc b)) p r hb hr e = omega arith

rest_ones : (b p r : ℕ) → b < 2 → r < p → b * p + r ≡ p * 2 - 1 → r ≡ p - 1
rest_ones zero p r hb hr e = omega arith
rest_ones (suc zero) p r hb hr e = omega arith
rest_ones (suc (suc b)) p r hb hr e = omega arith

full-has : (m n : ℕ) → m % 2 ^ n ≡ 2 ^ n - 1 → all_to n (has m) ≡ true
unfolding all_to has
full-has m zero h = refl
full-has m (suc n) h =
    let e : m / 2 ^ n % 2 * 2 ^ n + m % 2 ^ n ≡ 2 ^ n * 2 - 1 = sym (low-suc m n) ∙ (h ∙ rw pow-suc) in
    let lt : m % 2 ^ n < 2 ^ n = mod-lt m (pow_pos n) in
    and_i (eqb (m / 2 ^ n % 2) 1) (all_to n (has m)) (eq-eqb _ _ (top_one (m / 2 ^ n % 2) (2 ^ n) (m % 2 ^ n) (omega arith) lt e))
    (full-has m n (rest_ones (m / 2 ^ n % 2) (2 ^ n) (m % 2 ^ n) (omega arith) lt e))

has-full : (m n : ℕ) → all_to n (has m) ≡ true → m % 2 ^ n ≡ 2 ^ n - 1
unfolding all_to has
has-full m zero h = omega arith
has-full m (suc n) h =
    let top : m / 2 ^ n % 2 ≡ 1 = eqb-true _ _ (and_l (eqb (m / 2 ^ n % 2) 1) (all_to n (has m)) h) in
    let ih : m % 2 ^ n ≡ 2 ^ n - 1 = has-full m n (and_r (eqb (m / 2 ^ n % 2) 1) (all_to n (has m)) h) in
    rw low-suc (rw (top, pow-suc) (omega (arith, pow_pos n)))

-- fullness is the test of every bit, for any n
pub full_is : (n m : ℕ) → full_to n m ≡ all_to n (has m)
unfolding full_to
full_is n m = same_test (eqb (m % 2 ^ n) (2 ^ n - 1)) (all_to n (has m)) (λ e. full-has m n (eqb-true _ _ e)) (λ e. eq-eqb _ _ (has-full m n e))
