-- Document 02, U2: what one lockage pays, and each owner's share of it.
use Rattle.std.specs.Prelude.{ℕ, Bool, cond}
use Rattle.model.specs.declared.Outcome.{Outcome}
use Rattle.model.specs.declared.Outcome.TheVariants.{None, Stay, Move}
use Rattle.tariff.specs.declared.Shares.{Shares}
use Rattle.tariff.specs.Tariff.{tariff, full_charge}
use Rattle.tariff.specs.Shares.{half_up, upper_share, lower_share}

-- "A return on the same day pays half, half pennies up."
abbrev pub reduced : Bool → ℕ → ℕ
reduced returned pence = cond returned (half_up pence) pence

-- "The office charges each order that ended Move, by boat length in cm"; "Stay and unfinished orders pay nothing."
unfoldable pub charge : ℕ → Outcome → Bool → ℕ
charge x None returned = 0
charge x Stay returned = 0
charge x Move returned = reduced returned (full_charge tariff x)

-- "Each charge is shared"
unfoldable pub shared : ℕ → Shares
shared pence = record { upper = upper_share pence; lower = lower_share pence }
