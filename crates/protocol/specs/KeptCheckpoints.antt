-- WHICH CHECKPOINT A CONTROLLER HAS (document 01: its card), at every moment of every list. **Save** "makes the card; the bench keeps the newest per controller."
-- It outlives a stop, which ends everything "but the gate's position, its cards and what it has sent or put", and a new order: "cards remain".
-- `kept_checkpoints` in src/lib.rt has it as its contract.
use Rattle.std.specs.Prelude.{ℕ, ◌≡◌, Bool, false, ◌&&◌, ◌||◌, List, [], ◌∷◌, ◌++◌, eqb, Option, Some, None}
use Rattle.model.specs.declared.Checkpoint.{Checkpoint}
use Rattle.model.specs.declared.Event.{Event}
use Rattle.model.specs.declared.Event.TheVariants.{Lock, Order, Cast, Deliver, Timeout, Decide, Stop, Save, Restore, OfBallots}
use Rattle.protocol.specs.declared.Bench.{Bench}
use Rattle.protocol.specs.Benches.{new_bench, station}
use Rattle.protocol.specs.Questions.{is_accepted, reply}
use Rattle.protocol.specs.Steps.{step}
use Rattle.protocol.specs.Display.{shown_outcome, shown_position}
use Rattle.protocol.specs.Claim.{after, Accepted}

-- is it a save of controller i, and accepted
abbrev pub saves_at : ℕ → Bench → Event → Bool
saves_at i b (Lock n f own) = false
saves_at i b (Order o) = false
saves_at i b (Cast j willing target) = false
saves_at i b (Deliver j k kind) = false
saves_at i b (Timeout j) = false
saves_at i b (Decide j move) = false
saves_at i b (Stop j) = false
saves_at i b (Save j) = eqb j i && is_accepted (reply b (Save j))
saves_at i b (Restore j) = false
saves_at i b (OfBallots e) = false

unfoldable pub saves_any : ℕ → Bench → List Event → Bool
saves_any i b [] = false
saves_any i b (e ∷ es) = saves_at i b e || saves_any i (step b e) es

-- controller i's checkpoint, if it has one
abbrev pub checkpoint_in : Bench → ℕ → Option Checkpoint
checkpoint_in b i = (station b i).saved

-- what a card of controller i has at a moment: "controller; n; f; outcome ..; order ..; position", these two as its C line shows them
abbrev pub as_shown : Bench → ℕ → Checkpoint
as_shown b i = record { id = i; n = b.shared.n; f = b.shared.f; outcome = shown_outcome b i; order = b.shared.order; position = shown_position b i }

pub record KeptCheckpoints : Type 0 where
  -- after an accepted save it is what was shown then, until the next accepted save of that controller
  pub newest : (es more : List Event) (i : ℕ) → Accepted es (Save i) → saves_any i (after (es ++ (Save i ∷ []))) more ≡ false
      → checkpoint_in (after (es ++ (Save i ∷ more))) i ≡ Some (as_shown (after es) i)
  -- before the first there is none: "every controller is running at stage 0, without outcome or card"
  pub none : (es : List Event) (i : ℕ) → saves_any i new_bench es ≡ false → checkpoint_in (after es) i ≡ None
