-- What is asked of each call on a cabinet, in the documents' sequence; 1 to 3 of its state come before (`state_refusal`), and 1 of a buffer's length where one is
-- lent. `o` is the number of the order that the cabinet is in, 0 before the first; `k` the condition of its controller.
use Rattle.std.specs.Prelude.{ℕ, Bool, not, false, ◌&&◌, ◌||◌, List, [], ◌∷◌, eqb, leb, ltb}
use Rattle.model.specs.Questions.{Question, ask}
use Rattle.model.specs.Ranges.{sizes_in_range, is_controller, position_in_range}
use Rattle.model.specs.Numbers.{is_none}
use Rattle.model.specs.declared.Checkpoint.{Checkpoint}
use Rattle.records.specs.Codes.{is_flag}
use Rattle.checkpoint_record.specs.Checkpoints.{ReadCheckpoint}
use Rattle.std.specs.Prelude.{Ok, Err}
use Rattle.protocol.specs.declared.Condition.{Condition}
use Rattle.protocol.specs.declared.Identity.{Identity}
use Rattle.protocol.specs.Controllers.{is_running, is_standby, is_present, phase_in, outcome_in}

-- 14: "Is an order open?"
abbrev pub in_order : ℕ → Bool
in_order o = leb 1 o

-- **begin**: 3 of the flag (does the lock settle the word by ballots), 4, 7, and 11 of where the gate stands
unfoldable pub begin_asked : ℕ → ℕ → ℕ → ℕ → ℕ → List Question
begin_asked n f id own position = ask 3 (is_flag own) ∷ ask 4 (sizes_in_range n f) ∷ ask 7 (is_controller n id) ∷ ask 11 (position_in_range position) ∷ []

-- **order**: 13 asks whether this controller, if it runs, has its outcome of the order before
unfoldable pub may_follow : ℕ → Condition → Bool
may_follow o k = eqb o 0 || not (is_running k && is_none (outcome_in k))

unfoldable pub order_asked : ℕ → ℕ → Condition → List Question
order_asked number o k = ask 8 (leb 1 number) ∷ ask 12 (ltb o number) ∷ ask 13 (may_follow o k) ∷ []

-- **vote**
unfoldable pub vote_asked : ℕ → ℕ → ℕ → Condition → List Question
vote_asked willing target o k = ask 3 (is_flag willing) ∷ ask 11 (position_in_range target) ∷ ask 14 (in_order o) ∷ ask 15 (is_running k) ∷ ask 16 (eqb (phase_in k) 0) ∷ []

-- **timeout**
unfoldable pub timeout_asked : ℕ → Condition → List Question
timeout_asked o k = ask 14 (in_order o) ∷ ask 15 (is_running k) ∷ ask 16 (eqb (phase_in k) 1 || eqb (phase_in k) 2) ∷ []

-- **decide**: 16 is not asked of one standing by
unfoldable pub decide_asked : ℕ → ℕ → Condition → List Question
decide_asked move o k = ask 3 (is_flag move) ∷ ask 14 (in_order o) ∷ ask 15 (is_present k) ∷ ask 16 (is_standby k || eqb (phase_in k) 3) ∷ []

-- **stop**, **save**
unfoldable pub present_asked : ℕ → Condition → List Question
present_asked o k = ask 14 (in_order o) ∷ ask 15 (is_present k) ∷ []

-- **wake**: what reading the card asks; then 30, a number of this library: is the card this controller's own?
unfoldable pub own_card : Identity → Checkpoint → Bool
own_card me p = eqb p.id me.id && eqb p.n me.n && eqb p.f me.f

unfoldable pub wake_asked : ReadCheckpoint → Identity → List Question
wake_asked (Err q) me = ask q false ∷ []
wake_asked (Ok p) me = ask 30 (own_card me p) ∷ []

-- **open**: `may`: is the ballot its own, not opened before and not below its highest promise; `put`: has it put a word at a lock without arbiter
unfoldable pub open_asked : ℕ → Condition → Bool → Bool → List Question
open_asked o k may put = ask 14 (in_order o) ∷ ask 15 (is_running k) ∷ ask 28 may ∷ ask 29 put ∷ []
