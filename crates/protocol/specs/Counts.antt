-- The count of gates still open, kept by the bench (document 02, U9): "how many running controllers lack an outcome".
-- OpenCount.antt says that it is the full count.
use Rattle.std.specs.Prelude.{ℕ, ◌-◌, Bool, true, false, ◌&&◌}
use Rattle.model.specs.Numbers.{is_none}
use Rattle.protocol.specs.declared.Condition.{Condition}
use Rattle.protocol.specs.declared.Counts.{Counts}
use Rattle.protocol.specs.declared.Shared.{Shared}
use Rattle.protocol.specs.Controllers.{is_running, is_present, outcome_in, bump}

-- the number that the panel reads
abbrev pub open_gates_of : Shared → ℕ
open_gates_of m = m.counts.undecided

-- a controller in this condition runs and lacks an outcome: its gate is still open
abbrev pub lacks_outcome : Condition → Bool
lacks_outcome k = is_running k && is_none (outcome_in k)

-- a count of controllers, after one of them has changed: whether that one was counted before, and whether it is now.
-- It stops at the ends of a byte: one fewer than 0 is 0, one more than 255 is 255 (a lock has fewer controllers).
abbrev pub recount : Bool → Bool → ℕ → ℕ
recount true true k = k
recount true false k = k - 1
recount false true k = bump k
recount false false k = k

-- the counts after one controller has gone from one condition to another; the one place where an event of one controller changes them
unfoldable pub counts_after : Condition → Condition → Counts → Counts
counts_after before after k = record {
  undecided = recount (lacks_outcome before) (lacks_outcome after) k.undecided;
  present = recount (is_present before) (is_present after) k.present;
}
