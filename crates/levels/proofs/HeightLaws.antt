-- What the code finds of heights is what the definitions say of levels.
use Rattle.std.proofs.Common.{◌≡◌, ℕ, ◌+◌, ◌-◌, ◌%◌, ◌^◌, ◌<◌, ◌≤◌, true, false, ◌&&◌, ltb, leb, ℤ, pos, negsuc, refl, ap, inl, inr, arith, ltb-false, ltb-true, le-ltb, lt-ltb, le-leb, leb-true}
use lib.IntN.{sub_ℕ}
use lib.Signed.{le_z, lt_z}
use borrow.Author.Tests.{lt-leb}
use Rattle.ground.specs.Tests.{split, same_test, and_l, and_r, and_i}
use Rattle.std.specs.Prelude.{Ok, Err}
use Rattle.model.specs.Positions.{millimetres}
use Rattle.model.specs.Questions.{unless, first_no}
use Rattle.levels.specs.declared.Range.{Range}
use Rattle.levels.specs.declared.heights.Heights.{Heights}
use Rattle.levels.specs.Integers.{Difference, difference, minus_is, le-holds, lt-holds, le-true, lt-true}
use Rattle.levels.specs.Heads.{low, high, head, mm, minus}
use Rattle.levels.specs.Judged.{is_level, both_levels, ordered}
use Rattle.levels.specs.Ends.{least, greatest, by_heads, willingness}
use Rattle.levels.specs.Heights.{Raised, RaisedRange, Listed, both_listed, under, over, by_heights}

raised-tells : (p : ℕ) → p < 2 ^ 32 → leb ((p + 100000) % 2 ^ 32) 200000 ≡ is_level (millimetres p)
unfolding millimetres
raised-tells p h = elim (split (ltb p (2 ^ 31))) [
  | inl t ↦ let e : p < 2 ^ 31 = ltb-true p (2 ^ 31) t in
      rw t (same_test (leb ((p + 100000) % 2 ^ 32) 200000) (is_level (pos p))
      (λ u. let k : (p + 100000) % 2 ^ 32 ≤ 200000 = leb-true _ _ u in le-leb p 100000 (omega arith))
      (λ u. let k : p ≤ 100000 = leb-true p 100000 u in le-leb ((p + 100000) % 2 ^ 32) 200000 (omega arith)))
  | inr t ↦ let e : 2 ^ 31 ≤ p = ltb-false p (2 ^ 31) t in
      rw t (same_test (leb ((p + 100000) % 2 ^ 32) 200000) (is_level (negsuc (2 ^ 32 - 1 - p)))
      (λ u. let k : (p + 100000) % 2 ^ 32 ≤ 200000 = leb-true _ _ u in and_i (leb (2 ^ 32 - 1 - p) 99999) true (le-leb (2 ^ 32 - 1 - p) 99999 (omega arith)) refl)
      (λ u. let k : 2 ^ 32 - 1 - p ≤ 99999 = leb-true _ _ (and_l (leb (2 ^ 32 - 1 - p) 99999) true u) in le-leb ((p + 100000) % 2 ^ 32) 200000 (omega arith)))
]

raised-place : (p : ℕ) → p < 2 ^ 32 → (p + 100000) % 2 ^ 32 ≤ 200000 → millimetres p ≡ sub_ℕ ((p + 100000) % 2 ^ 32) 100000
unfolding millimetres
raised-place p h l = elim (split (ltb p (2 ^ 31))) [
  | inl t ↦ let e : p < 2 ^ 31 = ltb-true p (2 ^ 31) t in
      let k : (p + 100000) % 2 ^ 32 ≡ p + 100000 = omega arith in
      rw (t, k, le-ltb (p + 100000) 100000 (omega arith)) (ap pos (omega arith))
  | inr t ↦ let e : 2 ^ 31 ≤ p = ltb-false p (2 ^ 31) t in
      let k : (p + 100000) % 2 ^ 32 < 100000 = omega arith in
      rw (t, lt-ltb ((p + 100000) % 2 ^ 32) 100000 k) (ap negsuc (omega arith))
]

pub raised : (p h : ℕ) → p < 2 ^ 32 → h ≡ (p + 100000) % 2 ^ 32 → Raised p h
raised p h l e = rw e (record { tells = raised-tells p l; place = raised-place p l })

-- a level in range as the difference of its height and 100,000
in_parts : (p h : ℕ) → Raised p h → h ≤ 200000 → Difference (millimetres p) h 100000
in_parts p h r l = rw (r.place l) (difference h 100000)

-- tests of levels, and of heads, by heights
module _ (x y : ℤ) (h k : ℕ) (p : Difference x h 100000) (q : Difference y k 100000) where
  le_is : le_z x y ≡ leb h k
  le_is =
      same_test (le_z x y) (leb h k)
      (λ t. le-leb h k (omega (arith, le-true x y t)))
      (λ t. le-holds x y (omega (arith, leb-true h k t)))

  under-is : lt_z (head x y) (minus 150) ≡ under h k
  under-is =
      same_test (lt_z (head x y) (minus 150)) (under h k)
      (λ t. lt-ltb (h + 150) k (omega (arith, minus_is x y, lt-true (head x y) (minus 150) t)))
      (λ t. lt-holds (head x y) (minus 150) (omega (arith, minus_is x y, ltb-true (h + 150) k t)))

  over-is : lt_z (mm 150) (head x y) ≡ over h k
  over-is =
      same_test (lt_z (mm 150) (head x y)) (over h k)
      (λ t. lt-ltb (k + 150) h (omega (arith, minus_is x y, lt-true (mm 150) (head x y) t)))
      (λ t. lt-holds (mm 150) (head x y) (omega (arith, minus_is x y, ltb-true (k + 150) h t)))

levels-is : (r : Range) (h : Heights) → RaisedRange r h → both_levels r ≡ both_listed h
levels-is r h f = rw (← f.low.tells, ← f.high.tells)

pub listed-true : (h : Heights) → both_listed h ≡ true → Listed h
listed-true h e = record {
  low = leb-true h.low 200000 (and_l (leb h.low 200000) (leb h.high 200000) e);
  high = leb-true h.high 200000 (and_r (leb h.low 200000) (leb h.high 200000) e);
}

-- what the code answers on each way
module _ (above below : Range) (a b : Heights) (ra : RaisedRange above a) (rb : RaisedRange below b) where
  pub above-outside : both_listed a ≡ false → Err 20 ≡ willingness above below
  unfolding willingness first_no unless
  above-outside e = rw (levels-is above a ra, e)

  module _ (la : both_listed a ≡ true) where
    pub below-outside : both_listed b ≡ false → Err 20 ≡ willingness above below
    unfolding willingness first_no unless
    below-outside e = rw (levels-is above a ra, levels-is below b rb, la, e)

    module _ (lb : both_listed b ≡ true) where
      low-above : Difference (low above) a.low 100000
      low-above = in_parts above.low a.low ra.low (listed-true a la).low

      high-above : Difference (high above) a.high 100000
      high-above = in_parts above.high a.high ra.high (listed-true a la).high

      low_below : Difference (low below) b.low 100000
      low_below = in_parts below.low b.low rb.low (listed-true b lb).low

      high-below : Difference (high below) b.high 100000
      high-below = in_parts below.high b.high rb.high (listed-true b lb).high

      ordered-above : ordered above ≡ leb a.low a.high
      ordered-above = le_is (low above) (high above) a.low a.high low-above high-above

      ordered-below : ordered below ≡ leb b.low b.high
      ordered-below = le_is (low below) (high below) b.low b.high low_below high-below

      all_listed : (both_levels above && both_levels below) ≡ true
      all_listed = rw (levels-is above a ra, levels-is below b rb, la, lb)

      pub above_crossed : a.high < a.low → Err 21 ≡ willingness above below
      unfolding willingness first_no unless
      above_crossed h = rw (all_listed, ordered-above, lt-leb a.low a.high h)

      module _ (oa : a.low ≤ a.high) where
        pub below_crossed : b.high < b.low → Err 21 ≡ willingness above below
        unfolding willingness first_no unless
        below_crossed h = rw (all_listed, ordered-above, ordered-below, le-leb a.low a.high oa, lt-leb b.low b.high h)

        same_answer : by_heights a b ≡ by_heads (least above below) (greatest above below)
        unfolding by_heights by_heads
        same_answer =
            rw (
              under-is (high above) (low below) a.high b.low high-above low_below,
              over-is (low above) (high below) a.low b.high low-above high-below,
              under-is (low above) (high below) a.low b.high low-above high-below,
              over-is (high above) (low below) a.high b.low high-above low_below,
            )

        pub answered : b.low ≤ b.high → Ok (by_heights a b) ≡ willingness above below
        unfolding willingness first_no unless
        answered ob = rw (all_listed, ordered-above, ordered-below, le-leb a.low a.high oa, le-leb b.low b.high ob) (ap Ok same_answer)
