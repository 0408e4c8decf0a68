-- Laws of `collect`, the set of those of 1..n that pass a test. It is exact as far as masks have bits.
use Rattle.std.specs.Prelude.{ℕ, zero, suc, ◌^◌, ◌≤◌, ◌<◌, ◌≡◌, refl, Bool, false, ◌&&◌, leb, ltb}
use Rattle.std.proofs.Common.{sym, ◌∙◌, arith, pow_pos, ltb-true, le-leb}
use Rattle.std.proofs.Math.Decide.{dec_le, ℕ_discrete}
use Rattle.std.proofs.Math.Pow.{pow-lt}
use Rattle.std.specs.Int.Bits.{bit_or}
use Rattle.std.proofs.lemmas.Nat.{or_lt}
use Rattle.std.proofs.lemmas.Bool.{lt-leb}
use Rattle.ground.specs.Tests.{by_cond}
use Rattle.ground.specs.Mask.{width, has, insert, collect}
use Rattle.ground.proofs.MaskLaws.{has-none, insert-own, insert-other}

has-zero : (m : ℕ) → has m 0 ≡ false
unfolding has
has-zero m = refl

-- none above n is in it
pub collect-past : (n : ℕ) (p : ℕ → Bool) (k : ℕ) → n < k → has (collect n p) k ≡ false
unfolding collect
collect-past zero p k h = has-none k
collect-past (suc n) p k h =
    by_cond (λ (m : ℕ). has m k ≡ false) (p (suc n)) (insert (collect n p) (suc n)) (collect n p)
    (λ _. insert-other (collect n p) (suc n) k (λ e. omega arith) ∙ collect-past n p k (omega arith))
    (λ _. collect-past n p k (omega arith))

-- one of 1..n that has a bit is in it exactly if it passes
pub collect-at : (n : ℕ) (p : ℕ → Bool) (k : ℕ) → k ≤ width → 1 ≤ k → k ≤ n → has (collect n p) k ≡ p k
unfolding collect
collect-at zero p k w a b = absurd (omega arith)
collect-at (suc n) p k w a b = elim (ℕ_discrete k (suc n)) [
  | yes q ↦ rw q (by_cond (λ (m : ℕ). has m (suc n) ≡ p (suc n)) (p (suc n)) (insert (collect n p) (suc n)) (collect n p)
      (λ e. insert-own (collect n p) (suc n) (omega arith) (omega arith) ∙ sym e)
      (λ e. collect-past n p (suc n) (omega arith) ∙ sym e))
  | no q ↦ let ih : has (collect n p) k ≡ p k = collect-at n p k w a (omega arith) in
      by_cond (λ (m : ℕ). has m k ≡ p k) (p (suc n)) (insert (collect n p) (suc n)) (collect n p)
      (λ _. insert-other (collect n p) (suc n) k q ∙ ih)
      (λ _. ih)
]

-- who is in it
pub has-collect : (n : ℕ) (p : ℕ → Bool) (k : ℕ) → n ≤ width → has (collect n p) k ≡ (leb 1 k && leb k n && p k)
has-collect n p zero w = has-zero (collect n p)
has-collect n p (suc k) w = elim (dec_le (suc k) n) [
  | yes h ↦ rw (collect-at n p (suc k) (omega arith) (omega arith) h, le-leb 1 (suc k) (omega arith), le-leb (suc k) n h)
  | no h ↦ rw (collect-past n p (suc k) (omega arith), le-leb 1 (suc k) (omega arith), lt-leb (suc k) n (omega arith))
]

-- a set with one more is a mask still
insert_fits : (m i : ℕ) → m < 2 ^ width → insert m i < 2 ^ width
unfolding insert
insert_fits m zero h = h
insert_fits m (suc i) h =
    by_cond (λ (x : ℕ). x < 2 ^ width) (ltb i width) (bit_or m (2 ^ i)) m
    (λ e. or_lt width m (2 ^ i) h (pow-lt (ltb-true i width e)))
    (λ _. h)

-- it is a mask, for any n
pub collect_fits : (n : ℕ) (p : ℕ → Bool) → collect n p < 2 ^ width
unfolding collect
collect_fits zero p = pow_pos width
collect_fits (suc n) p =
    by_cond (λ (x : ℕ). x < 2 ^ width) (p (suc n)) (insert (collect n p) (suc n)) (collect n p)
    (λ _. insert_fits (collect n p) (suc n) (collect_fits n p))
    (λ _. collect_fits n p)
