-- The counts are as they were, where the condition of the one controller stays.
use Rattle.std.specs.Prelude.{ℕ, ◌≡◌, refl, Bool, true, false}
use Rattle.protocol.specs.declared.Condition.{Condition}
use Rattle.protocol.specs.declared.Counts.{Counts}
use Rattle.protocol.specs.Controllers.{is_present}
use Rattle.protocol.specs.Counts.{lacks_outcome, recount, counts_after}

recount-same : (x : Bool) (k : ℕ) → recount x x k ≡ k
recount-same true k = refl
recount-same false k = refl

pub counts-stay : (k : Condition) (n : Counts) → counts_after k k n ≡ n
unfolding counts_after
counts-stay k n = rw (recount-same (lacks_outcome k) n.undecided, recount-same (is_present k) n.present)
