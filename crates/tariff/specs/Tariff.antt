-- Document 02, U2: "by boat length in cm: to 500, 310 pence; to 800, 460; to 1,200, 690; to 1,600, 943; to 2,000, 1,231; to 2,500, 1,587".
use Rattle.std.specs.Prelude.{ℕ, zero, suc, ◌≤◌, ◌<◌, ◌≡◌, Bool, true, cond, ◌&&◌, List, [], ◌∷◌, leb, ltb, length, get_or}
use Rattle.tariff.specs.declared.Band.{Band}

abbrev pub to : ℕ → ℕ → Band
to x pence = record { limit = x; charge = pence }

abbrev pub tariff : List Band
tariff = to 500 310 ∷ to 800 460 ∷ to 1200 690 ∷ to 1600 943 ∷ to 2000 1231 ∷ to 2500 1587 ∷ []

-- the full charge for a length: that of the first band whose limit it does not exceed; beyond every limit there is none
unfoldable pub full_charge : List Band → ℕ → ℕ
full_charge [] x = 0
full_charge (b ∷ bs) x = cond (leb x b.limit) b.charge (full_charge bs x)

-- the test of the limits' order: each is above the one before it, the first above m
unfoldable pub rising : ℕ → List Band → Bool
rising m [] = true
rising m (b ∷ bs) = ltb m b.limit && rising b.limit bs

-- band i, counted from 0, and the limit before it: m before the first
abbrev pub band_at : List Band → ℕ → Band
band_at bs i = get_or bs i (to 0 0)

unfoldable pub limit_before : ℕ → List Band → ℕ → ℕ
limit_before m bs zero = m
limit_before m bs (suc i) = (band_at bs i).limit

-- what bands in order mean: each band's charge is that of the lengths above the limit before it and up to its own
pub record InOrder (bs : List Band) : Type 0 where
  pub limits : (i : ℕ) → i < length bs → limit_before 0 bs i < (band_at bs i).limit
  pub charges : (i x : ℕ) → i < length bs → limit_before 0 bs i < x → x ≤ (band_at bs i).limit → full_charge bs x ≡ (band_at bs i).charge
