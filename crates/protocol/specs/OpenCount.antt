-- GATES STILL OPEN (document 02, U9): the number that the bench keeps is the full count, "after every event, stop, restore and new order of any list
-- from a new bench", refused events included; and question 13, which goes by it, asks what document 01 says. It has no premise.
-- `open_count` in src/lib.rt has it as its contract.
use Rattle.std.specs.Prelude.{ℕ, ◌≡◌, Bool, not, ◌&&◌, ◌||◌, List, eqb}
use Rattle.ground.specs.Quantify.{all_to, count_to}
use Rattle.model.specs.Numbers.{is_none}
use Rattle.model.specs.declared.Event.{Event}
use Rattle.protocol.specs.declared.Bench.{Bench}
use Rattle.protocol.specs.Controllers.{is_present, runs}
use Rattle.protocol.specs.Counts.{open_gates_of}
use Rattle.protocol.specs.Benches.{controller}
use Rattle.protocol.specs.Questions.{may_open}
use Rattle.protocol.specs.Display.{shown_outcome}
use Rattle.protocol.specs.Claim.{after}

-- controller k runs, and its C line shows no outcome
abbrev pub is_open : Bench → ℕ → Bool
is_open b k = runs (controller b k) && is_none (shown_outcome b k)

-- the full count: "how many running controllers lack an outcome", of 1 to n
abbrev pub full_count : Bench → ℕ
full_count b = count_to b.shared.n (is_open b)

-- document 01, question 13: "Has every running controller an outcome, or has no order been opened yet?"
abbrev pub has_ended : Bench → Bool
has_ended b = eqb b.shared.order 0 || all_to b.shared.n (λ k. not (is_open b k))

pub record OpenCount : Type 0 where
  -- "keep that number, and show it equal to the full count"
  pub counted : (es : List Event) → open_gates_of (after es).shared ≡ full_count (after es)
  -- question 13 asks what document 01 asks
  pub question_13 : (es : List Event) → may_open (after es).shared ≡ has_ended (after es)
  -- the second number kept, from which a new order sets the first: those that run or stand by
  pub present : (es : List Event) → (after es).shared.counts.present ≡ count_to (after es).shared.n (λ k. is_present (controller (after es) k).condition)
