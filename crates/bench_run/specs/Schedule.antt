-- A schedule: event records as bytes. Document 01, "The bench program": "The records follow one another with nothing between them."
use Rattle.std.specs.Prelude.{ℕ, zero, suc, ◌+◌, ◌-◌, ◌*◌, ◌/◌, List, [], ◌∷◌, ◌++◌, length}
use Rattle.model.specs.declared.Act.{Act}
unfoldable pub use Rattle.schedule_reader.specs.Pieces.{piece_at}
use Rattle.event_record.specs.Events.{event_length, read_event}
use Rattle.event_record.specs.Events.{ReadEvent}
use Rattle.std.specs.Prelude.{Ok, Err}

-- record k, and how many there are
abbrev pub piece : List ℕ → ℕ → List ℕ
piece s k = piece_at s (k * event_length)

unfoldable pub count : List ℕ → ℕ
count s = (length s + (event_length - 1)) / event_length

-- what reading lets through
abbrev pub let_through : ReadEvent → List Act
let_through (Ok a) = a ∷ []
let_through (Err q) = []

-- the acts of the first k records, events and steps back; and of all: the list that the bytes stand for
unfoldable pub acts_to : List ℕ → ℕ → List Act
acts_to s zero = []
acts_to s (suc k) = acts_to s k ++ let_through (read_event (piece s k))

abbrev pub acts : List ℕ → List Act
acts s = acts_to s (count s)
