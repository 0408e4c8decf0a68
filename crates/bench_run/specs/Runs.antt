-- A whole schedule on a new bench: what a report shows of the bench at its end, and an answer for each record.
use Rattle.std.specs.Prelude.{ℕ, zero, suc, ◌≡◌, Bool, true, false, cond, List, [], ◌∷◌, ◌++◌, leb, length, drop}
use Rattle.event_record.specs.Events.{read_event}
use Rattle.event_record.specs.Events.{ReadEvent}
use Rattle.std.specs.Prelude.{Ok, Err}
use Rattle.protocol.specs.declared.Bench.{Bench}
use Rattle.protocol.specs.Benches.{new_bench}
use Rattle.protocol.specs.Counts.{open_gates_of}
use Rattle.protocol.specs.Questions.{number}
use Rattle.steps_back.specs.Memory.{Remembering, new_remembering, answer, run_acts}
use Rattle.bench_summary.specs.Summary.{summary_of}
use Rattle.bench_run.specs.Schedule.{piece, count, acts_to, acts}
use Rattle.bench_run.specs.declared.RunResult.{RunResult}

-- a record's answer: the number with which reading refused it, or the bench's answer
abbrev pub answer_number : ReadEvent → Remembering → ℕ
answer_number (Ok a) b = number (answer b a)
answer_number (Err q) b = q

-- the answer to record k, which finds the bench that the records before it have left
abbrev pub answer_at : List ℕ → ℕ → ℕ
answer_at s k = answer_number (read_event (piece s k)) (run_acts new_remembering (acts_to s k))

unfoldable pub answers_to : List ℕ → ℕ → List ℕ
answers_to s zero = []
answers_to s (suc k) = answers_to s k ++ (answer_at s k ∷ [])

abbrev pub answers : List ℕ → List ℕ
answers s = answers_to s (count s)

-- is there room for all answers?
abbrev pub has_room : List ℕ → List ℕ → Bool
has_room s out = leb (count s) (length out)

-- what a run returns of the bench at its end
abbrev pub end_of : Bool → ℕ → Bench → RunResult
end_of complete count b = record { complete = complete; count = count; open_gates = open_gates_of b.shared; summary = summary_of b }

-- the run of a schedule: the bench after the list of events and steps back that its bytes stand for; with too little room nothing is run
abbrev pub not_run : RunResult
not_run = end_of false 0 new_bench

unfoldable pub run_of : List ℕ → List ℕ → RunResult
run_of s out = cond (has_room s out) (end_of true (count s) (run_acts new_remembering (acts s)).bench) not_run

-- the buffer afterwards: the answers at its front, and the rest as before
unfoldable pub answered : List ℕ → List ℕ → List ℕ
answered s out = cond (has_room s out) (answers s ++ drop (count s) out) out

-- what a run of a schedule promises: of its result, and of the buffer that was lent to it
pub record RunAsDefined (s out : List ℕ) (r : RunResult) (after : List ℕ) : Type 0 where
  pub result : r ≡ run_of s out
  pub buffer : after ≡ answered s out
