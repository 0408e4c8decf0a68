-- How many of 1..n are in a set: laws of `count_to n (has m)`, for any n.
use Rattle.std.specs.Prelude.{ℕ, zero, suc, ◌+◌, ◌^◌, ◌/◌, ◌%◌, ◌≤◌, ◌<◌, ◌≡◌, refl, Bool, true, false, ◌||◌, cond, eqb}
use Rattle.std.proofs.Common.{sym, ◌∙◌, ap, arith, mod-lt, pow_pos, inl, inr, ne_eqb}
use Rattle.std.proofs.Math.Bool.{or-false}
use Rattle.std.proofs.Math.Decide.{ℕ_discrete}
use Rattle.std.specs.Int.Count.{ones}
use Rattle.std.proofs.lemmas.Nat.{ones_cat}
use Rattle.ground.specs.Tests.{split}
use Rattle.ground.specs.Quantify.{count_to, count_le}
use Rattle.ground.specs.Update.{upd, upd_same, upd_other}
use Rattle.ground.specs.Mask.{width, has, insert}
use Rattle.ground.proofs.MaskLaws.{low-suc, insert-is}

-- counts ---------------------------------------------------------------------------

count-out : (m : ℕ) (p : ℕ → Bool) (j : ℕ) → m < j → count_to m (upd p j true) ≡ count_to m p
unfolding count_to
count-out zero p j h = refl
count-out (suc m) p j h = rw (upd_other p j true (suc m) (ne_eqb (suc m) j (λ e. omega arith)), count-out m p j (omega arith))

-- a new member is counted once
pub count-new : (m : ℕ) (p : ℕ → Bool) (j : ℕ) → 1 ≤ j → j ≤ m → p j ≡ false → count_to m (upd p j true) ≡ suc (count_to m p)
unfolding count_to
count-new zero p j a b e = absurd (omega arith)
count-new (suc m) p j a b e = elim (ℕ_discrete j (suc m)) [
  | yes q ↦ let e' : p (suc m) ≡ false = (rw q at e) in rw (q, upd_same p (suc m) true, e', count-out m p (suc m) (omega arith)) (omega arith)
  | no q ↦ rw (upd_other p j true (suc m) (ne_eqb (suc m) j (λ z. q (sym z))), count-new m p j a (omega arith) e) (omega arith)
]

-- where each that passes one test passes another, no more pass the first
pub count_mono : (m : ℕ) (p q : ℕ → Bool) → ((k : ℕ) → p k ≡ true → q k ≡ true) → count_to m p ≤ count_to m q
unfolding count_to
count_mono zero p q h = omega arith
count_mono (suc m) p q h = let ih : count_to m p ≤ count_to m q = count_mono m p q h in elim (split (p (suc m))) [
  | inl e ↦ rw (e, h (suc m) e) (omega arith)
  | inr e ↦ rw e (omega arith)
]

-- a count of 0: none of 1..m passes
pub count_none : (m : ℕ) (p : ℕ → Bool) → count_to m p ≡ 0 → (k : ℕ) → 1 ≤ k → k ≤ m → p k ≡ false
unfolding count_to
count_none zero p e k a b = absurd (omega arith)
count_none (suc m) p e k a b = elim (split (p (suc m))) [
  | inl q ↦ let e' : 1 + count_to m p ≡ 0 = (rw q at e) in absurd (omega arith)
  | inr q ↦ let e' : 0 + count_to m p ≡ 0 = (rw q at e) in elim (ℕ_discrete k (suc m)) [
    | yes z ↦ rw z q
    | no z ↦ count_none m p (omega arith) k a (omega arith)
  ]
]

-- and where none passes it is 0
pub none-count : (m : ℕ) (p : ℕ → Bool) → ((k : ℕ) → 1 ≤ k → k ≤ m → p k ≡ false) → count_to m p ≡ 0
unfolding count_to
none-count zero p h = refl
none-count (suc m) p h = rw (h (suc m) (omega arith) (omega arith), none-count m p (λ k a b. h k a (omega arith)))

-- all pass: the count is m
pub all-count : (m : ℕ) (p : ℕ → Bool) → ((k : ℕ) → 1 ≤ k → k ≤ m → p k ≡ true) → count_to m p ≡ m
unfolding count_to
all-count zero p h = refl
all-count (suc m) p h = rw (h (suc m) (omega arith) (omega arith), all-count m p (λ k a b. h k a (omega arith))) (omega arith)

-- sizes ----------------------------------------------------------------------------

-- two sets with nobody in common
pub count-union : (m : ℕ) (p q r : ℕ → Bool) → ((k : ℕ) → r k ≡ (p k || q k)) → ((k : ℕ) → q k ≡ true → p k ≡ false) → count_to m r ≡ count_to m p + count_to m q
unfolding count_to
count-union zero p q r e d = refl
count-union (suc m) p q r e d = let ih : count_to m r ≡ count_to m p + count_to m q = count-union m p q r e d in elim (split (q (suc m))) [
  | inl h ↦ rw (e (suc m), d (suc m) h, h) (omega arith)
  | inr h ↦ rw (e (suc m), h, or-false (p (suc m))) (omega arith)
]

-- at most n of 1..n are in a set
pub size_le : (n m : ℕ) → count_to n (has m) ≤ n
size_le n m = count_le n (has m)

ones_bit : (x : ℕ) → x < 2 → ones x ≡ cond (eqb x 1) 1 0
unfolding ones
ones_bit zero h = refl
ones_bit (suc zero) h = refl
ones_bit (suc (suc x)) h = absurd (omega arith)

-- the size is the number of ones among the lowest n bits
pub size_ones : (n m : ℕ) → count_to n (has m) ≡ ones (m % 2 ^ n)
unfolding count_to has ones
size_ones zero m = let e : m % 2 ^ 0 ≡ 0 = omega arith in rw e
size_ones (suc n) m =
    rw (low-suc m n, ones_cat n (m / 2 ^ n % 2) (m % 2 ^ n) (mod-lt m (pow_pos n)), ones_bit (m / 2 ^ n % 2) (omega arith), ← size_ones n m)

-- a new member makes the set larger by one
pub insert-size : (n m i : ℕ) → 1 ≤ i → i ≤ n → i ≤ width → has m i ≡ false → count_to n (has (insert m i)) ≡ suc (count_to n (has m))
insert-size n m i a b w e = ap (count_to n) (insert-is m i a w) ∙ count-new n (has m) i a b e
