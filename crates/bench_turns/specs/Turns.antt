-- What a restore takes from the checkpoint.
use Rattle.std.specs.Prelude.{ℕ, cond, eqb, Option, Some, None}
use Rattle.model.specs.declared.Outcome.{Outcome}
use Rattle.model.specs.declared.Outcome.TheVariants.{None}
use Rattle.model.specs.declared.Checkpoint.{Checkpoint}

-- "with the card's outcome if the card is of this order, else none"
abbrev pub outcome_saved : Option Checkpoint → ℕ → Outcome
outcome_saved None order = None
outcome_saved (Some p) order = cond (eqb p.order order) p.outcome None
