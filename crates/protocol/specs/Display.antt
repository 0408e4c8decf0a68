-- What the bench shows. Document 01, "The bench program": the C lines and the T line.
use Rattle.std.specs.Prelude.{ℕ, zero, suc, ◌+◌, ◌≡◌, true}
use Rattle.ground.specs.Quantify.{count_to}
use Rattle.ground.specs.Mask.{has}
use Rattle.model.specs.declared.Kind.{Kind}
use Rattle.model.specs.declared.Outcome.{Outcome}
use Rattle.protocol.specs.declared.Condition.{Condition}
use Rattle.protocol.specs.declared.Condition.TheVariants.{Running, Stopped, Standby}
use Rattle.protocol.specs.declared.Bench.{Bench}
use Rattle.protocol.specs.Controllers.{outcome}
use Rattle.protocol.specs.Benches.{controller, sent_by, of_kind}

-- "stage (8 stopped, 9 standing by)"
abbrev pub stage_shown : Condition → ℕ
stage_shown (Running p) = p.phase
stage_shown Stopped = 8
stage_shown (Standby o) = 9

-- a C line of controller i: its stage, outcome and position
abbrev pub shown_stage : Bench → ℕ → ℕ
shown_stage b i = stage_shown (controller b i).condition

abbrev pub shown_outcome : Bench → ℕ → Outcome
shown_outcome b i = outcome (controller b i)

abbrev pub shown_position : Bench → ℕ → ℕ
shown_position b i = (controller b i).gate.position

-- the message of a kind from i to j was sent in this order (question 17)
abbrev pub WasSent : Bench → Kind → ℕ → ℕ → Type 0
WasSent b kind i j = has (of_kind kind (sent_by b i)).to j ≡ true

-- "T and the telegrams sent in this order, by kind": over all senders, how many receivers each has sent one to
unfoldable pub sum_to : ℕ → (ℕ → ℕ) → ℕ
sum_to zero g = 0
sum_to (suc m) g = g (suc m) + sum_to m g

unfoldable pub sent_count : Bench → Kind → ℕ → ℕ
sent_count b kind i = count_to b.shared.n (has (of_kind kind (sent_by b i)).to)

unfoldable pub message_count : Bench → Kind → ℕ
message_count b kind = sum_to b.shared.n (sent_count b kind)
