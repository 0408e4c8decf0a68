-- What is promised of every file. Document 02, U6: "Drawn events may be refused by the bench; the file itself reads without refusals 1 to 3."
use Rattle.std.specs.Prelude.{ℕ, zero, suc, ◌+◌, ◌*◌, ◌^◌, ◌<◌, false, ◌≡◌, length, get_or}
use Rattle.model.specs.declared.Act.TheVariants.{Play}
use Rattle.model.specs.declared.Event.TheVariants.{Lock}
use Rattle.event_record.specs.Events.{event_length}
use Rattle.std.specs.Prelude.{Ok}
use Rattle.schedule_reader.specs.Pieces.{record_at}
use Rattle.generator.specs.Drawing.{drawn_event}
use Rattle.generator.specs.File.{events_of, file_of}

-- how many records a file has: lock, order, votes, drawn events
abbrev pub records_in : ℕ → ℕ → ℕ
records_in n count = 2 + n + count

-- the state after so many drawn events
abbrev pub state_after : ℕ → ℕ → ℕ → ℕ
state_after n zero s = s
state_after n (suc k) s = state_after n k (drawn_event n s).state

-- of any sizes, count and start, so of those that are not refused
pub record Files : Type 0 where
  -- each record reads, and as the event that was written there
  pub reads : (n f count start k : ℕ) → k < records_in n count
      → record_at (file_of n f count start) (event_length * k) ≡ Ok (Play (get_or (events_of n f count start) k (Lock n f false)))
  -- ten bytes for each record
  pub long : (n f count start : ℕ) → length (file_of n f count start) ≡ event_length * records_in n count
  -- a state is never 0 again
  pub never-zero : (n k start : ℕ) → 0 < start → start < 2 ^ 32 → 0 < state_after n k start
