-- What is promised of the draws.
use Rattle.std.specs.Prelude.{ℕ, ◌<◌, ◌^◌, ◌≡◌}
use Rattle.xorshift.specs.Xorshift.{drawn_on}

pub record Draws : Type 0 where
  -- a state of 32 bits other than 0 is followed by such states alone
  pub never-zero : (k x : ℕ) → 0 < x → x < 2 ^ 32 → (0 < drawn_on k x) × (drawn_on k x < 2 ^ 32)
  -- "from 1 the first draw is 270,369"; the three after it are computed from the rule
  pub first : drawn_on 1 1 ≡ 270369
  pub second : drawn_on 2 1 ≡ 67634689
  pub third : drawn_on 3 1 ≡ 2647435461
  pub fourth : drawn_on 4 1 ≡ 307599695
