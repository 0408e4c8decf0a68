-- Document 01, "The bench program": "The records follow one another with nothing between them."
use Rattle.std.specs.Prelude.{ℕ, List, take, drop}
use Rattle.event_record.specs.Events.{event_length, read_event}
use Rattle.event_record.specs.Events.{ReadEvent}

-- the ten bytes from a place on, or what is left of them ("a short last piece")
unfoldable pub piece_at : List ℕ → ℕ → List ℕ
piece_at s at = take event_length (drop at s)

-- what reading makes of them
abbrev pub record_at : List ℕ → ℕ → ReadEvent
record_at s at = read_event (piece_at s at)
