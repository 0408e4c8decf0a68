-- T COUNTS SENDS, and what was sent stays what it was. `message_count` (Display), which the T line shows, is the size of sets of receivers; that is the number of messages sent by the
-- rules, since none is sent twice in an order. Said of every list of events. `sent_once` in src/lib.rt has it as its contract.
use Rattle.std.specs.Prelude.{ℕ, ◌+◌, ◌≡◌, true, cond, List, [], ◌∷◌, ◌++◌, length, Option, Some, None}
use Rattle.ground.specs.Quantify.{count_to}
use Rattle.ground.specs.Mask.{has}
use Rattle.model.specs.declared.Kind.{Kind}
use Rattle.model.specs.declared.Kind.TheVariants.{Vote, Ack, Help, Helped}
use Rattle.model.specs.declared.Event.{Event}
use Rattle.model.specs.declared.Event.TheVariants.{Lock, Order, Cast, Deliver, Timeout, Decide, Stop, Save, Restore, OfBallots}
use Rattle.protocol.specs.declared.Identity.{Identity}
use Rattle.protocol.specs.declared.Sends.{Sends}
use Rattle.protocol.specs.declared.Bench.{Bench}
use Rattle.protocol.specs.Sequence.{messages_of_kind}
use Rattle.protocol.specs.Benches.{new_bench, sent_by, of_kind}
use Rattle.protocol.specs.Events.{subject}
use Rattle.protocol.specs.Questions.{is_accepted, reply}
use Rattle.protocol.specs.Steps.{sends_at, step}
use Rattle.protocol.specs.Display.{WasSent, message_count}
use Rattle.protocol.specs.Claim.{after, Accepted, SameOrder}
use Rattle.protocol.specs.declared.Outgoing.{Outgoing}

-- to whom an answer sends messages of a kind
abbrev pub receivers_of : Option Outgoing → ℕ
receivers_of None = 0
receivers_of (Some o) = o.to

abbrev pub send_of : Kind → Sends → Option Outgoing
send_of Vote s = s.vote
send_of Ack s = s.ack
send_of Help s = s.help
send_of Helped s = s.helped

-- to whom the controller that an event concerns sends them at it, by the rules; and how many of 1 to n these are
abbrev pub receivers_at : Bench → Event → Kind → ℕ
receivers_at b e kind = receivers_of (send_of kind (sends_at b e))

abbrev pub send_count : Bench → Event → Kind → ℕ
send_count b e kind = count_to b.shared.n (has (receivers_at b e kind))

-- the count of what the accepted events of the order have sent: k before an event, and then
abbrev pub count_accepted : Kind → Bench → Event → ℕ → ℕ
count_accepted kind b (Lock n f own) k = 0
count_accepted kind b (Order o) k = 0
count_accepted kind b (Cast i willing target) k = k + send_count b (Cast i willing target) kind
count_accepted kind b (Deliver i j x) k = k + send_count b (Deliver i j x) kind
count_accepted kind b (Timeout i) k = k + send_count b (Timeout i) kind
count_accepted kind b (Decide i move) k = k + send_count b (Decide i move) kind
count_accepted kind b (Stop i) k = k + send_count b (Stop i) kind
count_accepted kind b (Save i) k = k + send_count b (Save i) kind
count_accepted kind b (Restore i) k = k + send_count b (Restore i) kind
count_accepted kind b (OfBallots e) k = k + send_count b (OfBallots e) kind

unfoldable pub count_sends : Kind → Bench → List Event → ℕ → ℕ
count_sends kind b [] k = k
count_sends kind b (e ∷ es) k = count_sends kind (step b e) es (cond (is_accepted (reply b e)) (count_accepted kind b e k) k)

-- what i sent to j is sent still on a later bench, with its set
pub record StaysSent (kind : Kind) (i j : ℕ) (b later : Bench) : Type 0 where
  pub sent : WasSent later kind i j
  pub votes : (of_kind kind (sent_by later i)).votes ≡ (of_kind kind (sent_by b i)).votes

pub record SentOnce : Type 0 where
  -- what an accepted event sends was not sent before in the order
  pub once : (es : List Event) (e : Event) (kind : Kind) (j : ℕ) → Accepted es e → has (receivers_at (after es) e kind) j ≡ true
      → WasSent (after es) kind (subject e) j → ⊥
  -- and what was sent is the same at every later moment of the order
  pub kept : (es more : List Event) (kind : Kind) (i j : ℕ) → SameOrder es more → WasSent (after es) kind i j
      → StaysSent kind i j (after es) (after (es ++ more))
  -- so the figures of the T line are the counts of the sends of the order's accepted events
  pub counted : (es : List Event) (kind : Kind) → message_count (after es) kind ≡ count_sends kind new_bench es 0
  -- and each of these sends has one message among those of the answer (Sequence)
  pub listed : (me : Identity) (kind : Kind) (s : Option Outgoing) → length (messages_of_kind me kind s) ≡ count_to me.n (has (receivers_of s))
