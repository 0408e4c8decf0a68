-- WHAT THE BENCH CAN REACH, over every list of events: stages, positions and vote sets stay within document 01's "Words with values", and what a cabinet
-- sends or saves passes every question put to its record, so that it can be written, and is read back as it was.
-- `reach` in src/lib.rt has it as its contract.
use Rattle.std.specs.Prelude.{ℕ, ◌≤◌, ◌<◌, ◌^◌, ◌≡◌, true, List, [], ◌∷◌, length, Some}
use Rattle.votes.specs.Contradictions.{WellFormed}
use Rattle.model.specs.Ranges.{position_in_range, different_controllers}
use Rattle.model.specs.declared.Kind.{Kind}
use Rattle.model.specs.declared.Checkpoint.{Checkpoint}
use Rattle.model.specs.declared.Message.{Message}
use Rattle.model.specs.declared.BallotKind.{BallotKind}
use Rattle.model.specs.declared.BallotKind.TheVariants.{Prepare, Promise, Accept, Accepted}
use Rattle.model.specs.declared.BallotMessage.{BallotMessage}
use Rattle.model.specs.declared.Telegram.TheVariants.{Plain, OfBallot}
use Rattle.model.specs.declared.Outcome.{Outcome}
use Rattle.model.specs.declared.Outcome.TheVariants.{None}
use Rattle.model.specs.declared.Event.{Event}
use Rattle.model.specs.declared.Event.TheVariants.{Lock, Order, Cast, Deliver, Timeout, Decide, Stop, Save, Restore, OfBallots}
use Rattle.records.specs.Codec.{record_length, bytes_of, reads, writes}
use Rattle.checkpoint_record.specs.Checkpoints.{about_checkpoint, checkpoints}
use Rattle.std.specs.Prelude.{Ok}
use Rattle.message_record.specs.Messages.{about_message}
use Rattle.message_record.specs.BallotMessages.{about_ballot}
use Rattle.message_record.specs.Telegrams.{telegrams}
use Rattle.protocol.specs.declared.Controller.{Controller}
use Rattle.protocol.specs.declared.Bench.{Bench}
use Rattle.protocol.specs.Controllers.{phase, has_ack, ack_of}
use Rattle.protocol.specs.Benches.{station, controller, sent_by, identity, message}
use Rattle.protocol.specs.Ballots.{is_ballot, row, report}
use Rattle.protocol.specs.BallotSteps.{was_sent_in, reported_word}
use Rattle.protocol.specs.BallotCalls.{ballot_to}
use Rattle.protocol.specs.Questions.{accepted, first_no}
use Rattle.protocol.specs.Display.{shown_position, WasSent}
use Rattle.protocol.specs.Claim.{after}

-- each vote set that a controller holds
pub record HeldWithin (c : Controller) : Type 0 where
  pub own : WellFormed c.votes
  pub acks : (j : ℕ) → has_ack c j ≡ true → WellFormed (ack_of c j)
  pub answers : WellFormed c.helped.votes
  pub help : WellFormed c.help.votes

-- the message of a kind from i to j, as the bench delivers it
abbrev pub message_at : Bench → Kind → ℕ → ℕ → Message
message_at b kind i j = message b.shared kind i j (sent_by b i)

-- the telegram of a kind from i to j in a ballot, with its content (document 02, U14): "Ask has the middle two 0; put and taken have last 0 and a word"; a promise reports
abbrev pub last_in : Bench → BallotKind → ℕ → ℕ → ℕ
last_in b Prepare i ballot = 0
last_in b Promise i ballot = report (row b.ballots ballot) i
last_in b Accept i ballot = 0
last_in b Accepted i ballot = 0

abbrev pub word_in : Bench → BallotKind → ℕ → ℕ → Outcome
word_in b Prepare i ballot = None
word_in b Promise i ballot = reported_word b.ballots ballot i
word_in b Accept i ballot = (row b.ballots ballot).tally.word
word_in b Accepted i ballot = (row b.ballots ballot).tally.word

abbrev pub ballot_at : Bench → BallotKind → ℕ → ℕ → ℕ → BallotMessage
ballot_at b kind i j ballot = ballot_to (identity b.shared i) kind ballot (last_in b kind i ballot) (word_in b kind i ballot) j

-- it was sent in the order that is open, from one controller to another
pub record WasSentInBallot (b : Bench) (kind : BallotKind) (i j ballot : ℕ) : Type 0 where
  pub order : 1 ≤ b.shared.order
  pub ends : different_controllers b.shared.n i j ≡ true
  pub in_range : is_ballot ballot ≡ true
  pub sent : was_sent_in kind b.shared.n ballot i j (row b.ballots ballot) ≡ true

-- controller i's checkpoint
abbrev pub IsSaved : Bench → ℕ → Checkpoint → Type 0
IsSaved b i p = (station b i).saved ≡ Some p

-- "The list has events .. as reading lets them through": an order number and a target stand in four bytes. A ballot on a telegram is one that question 28 let through
abbrev pub AsRead : Event → Type 0
AsRead (Lock n f own) = Unit {0}
AsRead (Order o) = o < 2 ^ 32
AsRead (Cast i willing target) = target < 2 ^ 32
AsRead (Deliver i j kind) = Unit {0}
AsRead (Timeout i) = Unit {0}
AsRead (Decide i move) = Unit {0}
AsRead (Stop i) = Unit {0}
AsRead (Save i) = Unit {0}
AsRead (Restore i) = Unit {0}
AsRead (OfBallots e) = Unit {0}

abbrev pub AllRead : List Event → Type 0
AllRead [] = Unit {0}
AllRead (e ∷ es) = AsRead e × AllRead es

pub record Reach : Type 0 where
  -- "A running one has a stage, 0 to 3."
  pub stages : (es : List Event) (i : ℕ) → phase (controller (after es) i) ≤ 3
  -- "Positions are −20,000 to 20,000 mm"
  pub positions : (es : List Event) (i : ℕ) → position_in_range (shown_position (after es) i) ≡ true
  pub vote-sets : (es : List Event) (i : ℕ) → HeldWithin (controller (after es) i)
  -- every message sent, and every checkpoint kept, passes the questions of its record; a checkpoint is its own controller's
  pub messages_pass : (es : List Event) (kind : Kind) (i j : ℕ) → WasSent (after es) kind i j → first_no (about_message (message_at (after es) kind i j)) ≡ accepted
  pub ballots_pass : (es : List Event) (kind : BallotKind) (i j ballot : ℕ) → WasSentInBallot (after es) kind i j ballot → first_no (about_ballot (ballot_at (after es) kind i j ballot)) ≡ accepted
  pub checkpoints_pass : (es : List Event) (i : ℕ) (p : Checkpoint) → IsSaved (after es) i p → first_no (about_checkpoint p) ≡ accepted
  pub checkpoints-own : (es : List Event) (i : ℕ) (p : Checkpoint) → IsSaved (after es) i p → p.id ≡ i
  -- and so it can be written into a buffer of the record's length,
  pub messages-written : (es : List Event) (kind : Kind) (i j : ℕ) (out : List ℕ) → length out ≡ record_length telegrams (Plain (message_at (after es) kind i j)) → WasSent (after es) kind i j
      → writes telegrams out (Plain (message_at (after es) kind i j)) ≡ bytes_of telegrams (Plain (message_at (after es) kind i j))
  pub ballots-written : (es : List Event) (kind : BallotKind) (i j ballot : ℕ) (out : List ℕ) → length out ≡ record_length telegrams (OfBallot (ballot_at (after es) kind i j ballot))
      → WasSentInBallot (after es) kind i j ballot → writes telegrams out (OfBallot (ballot_at (after es) kind i j ballot)) ≡ bytes_of telegrams (OfBallot (ballot_at (after es) kind i j ballot))
  pub checkpoints-written : (es : List Event) (i : ℕ) (p : Checkpoint) (out : List ℕ) → length out ≡ record_length checkpoints p → IsSaved (after es) i p
      → writes checkpoints out p ≡ bytes_of checkpoints p
  -- and is read back as it was
  pub messages-back : (es : List Event) (kind : Kind) (i j : ℕ) → AllRead es → WasSent (after es) kind i j
      → reads telegrams (bytes_of telegrams (Plain (message_at (after es) kind i j))) ≡ Ok (Plain (message_at (after es) kind i j))
  pub checkpoints-back : (es : List Event) (i : ℕ) (p : Checkpoint) → AllRead es → IsSaved (after es) i p → reads checkpoints (bytes_of checkpoints p) ≡ Ok p
  pub ballots-back : (es : List Event) (kind : BallotKind) (i j ballot : ℕ) → AllRead es → WasSentInBallot (after es) kind i j ballot
      → reads telegrams (bytes_of telegrams (OfBallot (ballot_at (after es) kind i j ballot))) ≡ Ok (OfBallot (ballot_at (after es) kind i j ballot))
