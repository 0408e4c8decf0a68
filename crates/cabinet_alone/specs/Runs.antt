-- A RUN OF THE LIBRARY on words that C lends: any words, a `cabinet_begin` that was answered 0, and any calls of the exported functions after it, each answered 0 or
-- refused, on the words that the one before it left. (The calls that look change no state. A `cabinet_begin` in between that is answered 0 begins another run.)
use Rattle.std.specs.Prelude.{ℕ, ◌≡◌, Bool, true, false, not, ◌&&◌, List, [], ◌∷◌, ◌++◌}
use Rattle.protocol.specs.declared.Identity.{Identity}
use Rattle.protocol.specs.declared.Controller.{Controller}
use Rattle.protocol.specs.Alone.{Call, alone}
use Rattle.cabinet_state.specs.declared.Cabinet.{Cabinet}
use Rattle.cabinet_state.specs.Words.{cabinet_of}
use Rattle.cabinet_turns.specs.Turns.{begun}
use Rattle.cabinet.specs.Acts.{Act, Ordering, Voting, Receiving, TimingOut, Deciding, Stopping, Waking, Opening, words_after, begin_answer, begin_words}
use Rattle.cabinet_alone.specs.Acts.{after_all, all_calls}

pub record Run : Type 0 where
  pub before : List ℕ
  pub n : ℕ
  pub f : ℕ
  pub id : ℕ
  pub own : ℕ
  pub position : ℕ
  pub accepted : begin_answer before n f id own position ≡ 0
  pub acts : List Act

-- the words after a list of calls
unfoldable pub words_after_all : List Act → List ℕ → List ℕ
words_after_all [] l = l
words_after_all (a ∷ acts) l = words_after_all acts (words_after a l)

-- the words at the end of a run; the cabinet that they stand for, and the controller in it
abbrev pub lent : Run → List ℕ
lent r = words_after_all r.acts (begin_words r.before r.n r.f r.id r.own r.position)

abbrev pub cabinet : Run → Cabinet
cabinet r = cabinet_of (lent r)

abbrev pub inside : Run → Controller
inside r = (cabinet r).controller

-- the same run, gone on
abbrev pub further : Run → List Act → Run
further r more = record { before = r.before; n = r.n; f = r.f; id = r.id; own = r.own; position = r.position; accepted = r.accepted; acts = r.acts ++ more }

-- the cabinet that was begun, and the one that the accepted calls make of it
abbrev pub start : Run → Cabinet
start r = begun r.n r.f r.id r.own r.position

abbrev pub made : Run → Cabinet
made r = after_all r.acts (start r)

-- controller `id` of the lock, and a controller alone after the calls that the accepted ones come to
abbrev pub who : Run → Identity
who r = record { n = r.n; f = r.f; id = r.id; order = 0 }

abbrev pub calls : Run → List Call
calls r = all_calls r.acts (start r)

abbrev pub aside : Run → Controller
aside r = alone (who r) (calls r)

-- the calls that clear a running controller: a new order, a stop, and waking, which stops it first
abbrev pub ends : Act → Bool
ends (Ordering k) = true
ends (Voting w t) = false
ends (Receiving bytes) = false
ends TimingOut = false
ends (Deciding w) = false
ends Stopping = true
ends (Waking bytes) = true
ends (Opening b) = false

unfoldable pub none_ends : List Act → Bool
none_ends [] = true
none_ends (a ∷ acts) = not (ends a) && none_ends acts
