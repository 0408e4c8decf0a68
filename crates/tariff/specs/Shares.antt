-- Document 02, U2: half a charge, and three fifths of one, in whole pence.
use Rattle.std.specs.Prelude.{ℕ, ◌+◌, ◌*◌, ◌/◌, ◌-◌, ◌≤◌}

-- the smallest whole number of pence that is at least num / den of an amount
pub record SmallestAtLeast (num den amount pence : ℕ) : Type 0 where
  pub enough : num * amount ≤ pence * den
  pub smallest : (p : ℕ) → num * amount ≤ p * den → pence ≤ p

-- the same as it is worked out: that it is the smallest at least the exact share is `rounded-up` (ShareLaws), for any fraction
unfoldable pub rounded_up : ℕ → ℕ → ℕ → ℕ
rounded_up num den amount = (num * amount + (den - 1)) / den

-- "A return on the same day pays half, half pennies up."
abbrev pub half_up : ℕ → ℕ
half_up charge = rounded_up 1 2 charge

-- "Each charge is shared three fifths to the upper pound's owner, rounded up to the penny"
abbrev pub upper_share : ℕ → ℕ
upper_share charge = rounded_up 3 5 charge

-- ", and the rest to the lower."
abbrev pub lower_share : ℕ → ℕ
lower_share charge = charge - upper_share charge
