-- Small runs of the line, by hand: whom a turn after some acts serves.
use Rattle.std.specs.Prelude.{ℕ, ◌≡◌, Bool, true, ◌&&◌, List, [], ◌∷◌}
use Rattle.line.specs.declared.Act.{Act}
use Rattle.line.specs.declared.Act.TheVariants.{Turn, Call}
use Rattle.line.specs.Claim.{answer, names}

pub record Example : Type 0 where
  pub acts : List Act
  pub served : ℕ

abbrev pub row : List Act → ℕ → Example
row acts k = record { acts = acts; served = k }

abbrev pub examples : List Example
examples =
    -- "the first turn starts from 1",
    row (Call 2 ∷ Call 1 ∷ []) 1
    -- and goes up
    ∷ row (Call 8 ∷ Call 2 ∷ []) 2
    -- "from the lock after the last served": on the way up from 1, then from 5
    ∷ row (Call 1 ∷ Turn ∷ Call 8 ∷ Call 2 ∷ []) 2
    ∷ row (Call 5 ∷ Turn ∷ Call 4 ∷ Call 5 ∷ Call 7 ∷ []) 7
    -- "with 1 following 8"
    ∷ row (Call 8 ∷ Turn ∷ Call 7 ∷ Call 1 ∷ []) 1
    ∷ row (Call 5 ∷ Turn ∷ Call 5 ∷ Call 4 ∷ Call 3 ∷ []) 3
    -- a turn that serves none leaves the last served as it was
    ∷ row (Call 5 ∷ Turn ∷ Turn ∷ Call 1 ∷ Call 6 ∷ []) 6
    ∷ []

unfoldable pub all_serve : List Example → Bool
all_serve [] = true
all_serve (e ∷ es) = names e.served (answer e.acts Turn) && all_serve es

abbrev pub ExamplesHold : Type 0
ExamplesHold = all_serve examples ≡ true
