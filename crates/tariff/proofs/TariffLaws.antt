-- The tariff is in order, by one test over the whole of it; and what that gives at each of its bands.
use Rattle.std.specs.Prelude.{ℕ, zero, suc, ◌+◌, ◌≤◌, ◌<◌, ◌≡◌, refl, Bool, true, ◌&&◌, List, [], ◌∷◌, leb, ltb, length, drop}
use Rattle.std.proofs.Common.{arith, add-one}
use Rattle.std.proofs.Math.Seq.{drop-cons}
use borrow.Author.Tests.{ltb-true, leb-true, le-leb, lt-leb}
use Rattle.ground.specs.Tests.{and_l, and_r, by_cond}
use Rattle.tariff.specs.declared.Band.{Band}
use Rattle.tariff.specs.Tariff.{to, tariff, full_charge, rising, band_at, limit_before, InOrder}

-- the one test
limits_rise : rising 0 tariff ≡ true
unfolding rising
limits_rise = refl

module _ (m : ℕ) (b : Band) (bs : List Band) (t : rising m (b ∷ bs) ≡ true) where
  first_above : m < b.limit
  unfolding rising
  first_above = ltb-true m b.limit (and_l (ltb m b.limit) (rising b.limit bs) t)

  rest_rises : rising b.limit bs ≡ true
  unfolding rising
  rest_rises = and_r (ltb m b.limit) (rising b.limit bs) t

-- the test, as the rule at each band
rises-at : (m : ℕ) (bs : List Band) → rising m bs ≡ true → (i : ℕ) → i < length bs → limit_before m bs i < (band_at bs i).limit
unfolding limit_before
rises-at m [] t i h = absurd (omega arith)
rises-at m (b ∷ bs) t zero h = first_above m b bs t
rises-at m (b ∷ bs) t (suc zero) h = rises-at b.limit bs (rest_rises m b bs t) zero (omega arith)
rises-at m (b ∷ bs) t (suc (suc i)) h = rises-at b.limit bs (rest_rises m b bs t) (suc i) (omega arith)

-- no limit is below the bound that the test starts from
not-below : (m : ℕ) (bs : List Band) → rising m bs ≡ true → (i : ℕ) → i < length bs → m ≤ limit_before m bs i
unfolding limit_before
not-below m bs t zero h = omega arith
not-below m [] t (suc i) h = absurd (omega arith)
not-below m (b ∷ bs) t (suc zero) h = omega (arith, first_above m b bs t)
not-below m (b ∷ bs) t (suc (suc i)) h = omega (arith, first_above m b bs t, not-below b.limit bs (rest_rises m b bs t) (suc i) (omega arith))

-- the bound before a band of the rest is at least the first limit
in_band : (m : ℕ) (bs : List Band) → rising m bs ≡ true → (i x : ℕ) → i < length bs → limit_before m bs i < x → x ≤ (band_at bs i).limit → full_charge bs x ≡ (band_at bs i).charge
unfolding full_charge limit_before
in_band m [] t i x h lo up = absurd (omega arith)
in_band m (b ∷ bs) t zero x h lo up = rw (le-leb x b.limit up)
in_band m (b ∷ bs) t (suc zero) x h lo up = rw (lt-leb x b.limit lo) (in_band b.limit bs (rest_rises m b bs t) zero x (omega arith) lo up)
in_band m (b ∷ bs) t (suc (suc i)) x h lo up =
    rw (lt-leb x b.limit (omega (arith, not-below b.limit bs (rest_rises m b bs t) (suc i) (omega arith))))
    (in_band b.limit bs (rest_rises m b bs t) (suc i) x (omega arith) lo up)

pub tariff_in-order : InOrder tariff
tariff_in-order = record { limits = rises-at 0 tariff limits_rise; charges = in_band 0 tariff limits_rise }

-- where the lookup stands after i bands: at band i, or past it
module _ (bs : List Band) (i x : ℕ) (h : i < length bs) where
  pub found_here : x ≤ (band_at bs i).limit → full_charge (drop i bs) x ≡ (band_at bs i).charge
  unfolding full_charge
  found_here a = rw (drop-cons bs i (to 0 0) h, le-leb x (band_at bs i).limit a)

  pub found-later : (band_at bs i).limit < x → full_charge (drop i bs) x ≡ full_charge (drop (i + 1) bs) x
  unfolding full_charge
  found-later a = rw (add-one, drop-cons bs i (to 0 0) h, lt-leb x (band_at bs i).limit a)

-- no charge is above m, by one test
at_most : ℕ → List Band → Bool
at_most m [] = true
at_most m (b ∷ bs) = leb b.charge m && at_most m bs

full-charge-at-most : (m : ℕ) (bs : List Band) → at_most m bs ≡ true → (x : ℕ) → full_charge bs x ≤ m
unfolding full_charge at_most
full-charge-at-most m [] t x = omega arith
full-charge-at-most m (b ∷ bs) t x =
    by_cond (λ (c : ℕ). c ≤ m) (leb x b.limit) b.charge (full_charge bs x)
    (λ _. leb-true b.charge m (and_l (leb b.charge m) (at_most m bs) t))
    (λ _. full-charge-at-most m bs (and_r (leb b.charge m) (at_most m bs) t) x)

pub full-charge-most : (x : ℕ) → full_charge tariff x ≤ 1587
unfolding at_most
full-charge-most x = full-charge-at-most 1587 tariff refl x
