-- The file of a starting number. Document 02, U6.
use Rattle.std.specs.Prelude.{ℕ, zero, suc, true, false, not, ◌&&◌, List, [], ◌∷◌, ◌++◌, map, eqb, leb, length}
use Rattle.model.specs.declared.Act.TheVariants.{Play}
use Rattle.model.specs.declared.Event.{Event}
use Rattle.model.specs.declared.Event.TheVariants.{Lock, Order, Cast}
use Rattle.model.specs.Questions.{Reply, accepted, refused, Question, ask, first_no}
use Rattle.model.specs.Ranges.{sizes_in_range}
use Rattle.event_record.specs.Events.{records_of}
use Rattle.generator.specs.Drawing.{drawn_event}

-- the records of events: no step back is drawn
abbrev pub event_records : List Event → List ℕ
event_records es = records_of (map Play es)

-- "all votes willing with target 0 in rising number": those of 1 to k
unfoldable pub votes_to : ℕ → List Event
votes_to zero = []
votes_to (suc k) = votes_to k ++ (Cast (suc k) true 0 ∷ [])

-- "a wanted count of drawn events", from a state on
unfoldable pub drawn_from : ℕ → ℕ → ℕ → List Event
drawn_from n zero s = []
drawn_from n (suc count) s = (drawn_event n s).event ∷ drawn_from n count (drawn_event n s).state

-- "A generator writes event records: lock, order 1, all votes .. , then a wanted count of drawn events"; the lock has an arbiter (c = 0)
unfoldable pub events_of : ℕ → ℕ → ℕ → ℕ → List Event
events_of n f count start = Lock n f false ∷ Order 1 ∷ (votes_to n ++ drawn_from n count start)

abbrev pub file_of : ℕ → ℕ → ℕ → ℕ → List ℕ
file_of n f count start = event_records (events_of n f count start)

-- "a wanted count of drawn events, 4,000 at most"
abbrev pub most_drawn : ℕ
most_drawn = 4000

-- "Refused: 23, a starting number of 0 or a count above 4,000; after question 4."
abbrev pub asked : ℕ → ℕ → ℕ → ℕ → List Question
asked n f count start = ask 4 (sizes_in_range n f) ∷ ask 23 (not (eqb start 0) && leb count most_drawn) ∷ []

unfoldable pub refusal_of : ℕ → ℕ → ℕ → ℕ → Reply
refusal_of n f count start = first_no (asked n f count start)

-- "Then a buffer not as long as the file gets 1."
unfoldable pub reply_to : ℕ → ℕ → ℕ → ℕ → List ℕ → Reply
reply_to n f count start out = first_no (asked n f count start ++ (ask 1 (eqb (length out) (length (file_of n f count start))) ∷ []))

-- the buffer afterwards: the file, or what it held before
abbrev pub written : Reply → List ℕ → List ℕ → List ℕ
written accepted file out = file
written (refused q) file out = out

unfoldable pub generated : ℕ → ℕ → ℕ → ℕ → List ℕ → List ℕ
generated n f count start out = written (reply_to n f count start out) (file_of n f count start) out
