-- A row of the table of trials, and when it passes: the definition, given the row's events, shows what the row says.
use Rattle.std.specs.Prelude.{ℕ, zero, suc, Bool, true, false, ◌&&◌, List, [], ◌∷◌, ◌++◌, eqb}
use Rattle.std.specs.Bool.{beq}
use Rattle.model.specs.Numbers.{kind_number, outcome_number}
use Rattle.model.specs.declared.Kind.{Kind}
use Rattle.model.specs.declared.Kind.TheVariants.{Vote, Ack, Help, Helped}
use Rattle.model.specs.declared.Outcome.{Outcome}
use Rattle.model.specs.declared.Outcome.TheVariants.{Stay, Move}
use Rattle.model.specs.declared.Event.{Event}
use Rattle.model.specs.declared.Message.{Message}
use Rattle.votes.specs.declared.VoteSet.{VoteSet}
use Rattle.protocol.specs.declared.Bench.{Bench}
use Rattle.protocol.specs.declared.Consensus.{Consensus}
use Rattle.protocol.specs.Sequence.{members, messages_of}
use Rattle.protocol.specs.Events.{subject}
use Rattle.protocol.specs.Counts.{open_gates_of}
use Rattle.protocol.specs.Benches.{new_bench, controller, identity}
use Rattle.protocol.specs.Questions.{number, is_accepted, reply}
use Rattle.protocol.specs.Steps.{sends_at, step, run}
use Rattle.protocol.specs.Display.{shown_stage, shown_outcome, shown_position, message_count}

-- a C line: "stage (8 stopped, 9 standing by), outcome (M, S, -), position"
pub record Line : Type 0 where
  pub stage : ℕ
  pub outcome : Outcome
  pub position : ℕ

-- what a controller does not show: how many acknowledgements and help answers it has counted, whose help calls it has taken, does it wait, the word it
-- has put since it last began
pub record Inside : Type 0 where
  pub cnt : ℕ
  pub cnt-help : ℕ
  pub callers : List ℕ
  pub waits : Bool
  pub proposal : Outcome

pub record Trial : Type 0 where
  -- put to a new bench
  pub events : List Event
  -- the answer to each event, 0 accepted
  pub answers : List ℕ
  -- the C lines, from controller 1 on
  pub lines : List Line
  -- the T line: how many votes, acknowledgements, help calls and help answers were sent
  pub message_counts : List ℕ
  -- the words put in this order
  pub words : List Outcome
  -- inside each controller, from 1 on
  pub inside : List Inside

-- the messages that an event sends, in their sequence
pub record SendTrial : Type 0 where
  -- put to a new bench
  pub events : List Event
  -- the event after them
  pub last : Event
  pub messages : List Message

-- the answers to a list of events
unfoldable pub answers_to : Bench → List Event → List ℕ
answers_to b [] = []
answers_to b (e ∷ es) = number (reply b e) ∷ answers_to (step b e) es

-- the count of gates still open after each
unfoldable pub open_after : Bench → List Event → List ℕ
open_after b [] = []
open_after b (e ∷ es) = open_gates_of (step b e).shared ∷ open_after (step b e) es

-- a value for each of 1 to m
unfoldable pub each : {A : Type 0} → ℕ → (ℕ → A) → List A
each zero g = []
each (suc m) g = each m g ++ (g (suc m) ∷ [])

abbrev pub line_of : Bench → ℕ → Line
line_of b i = record { stage = shown_stage b i; outcome = shown_outcome b i; position = shown_position b i }

abbrev pub inside_of : Bench → ℕ → Inside
inside_of b i = record { cnt = (controller b i).acks.cnt.0; cnt-help = (controller b i).helped.cnt_help.0; callers = members b.shared.n (controller b i).help.callers; waits = (controller b i).help.waiting; proposal = (controller b i).proposal }

abbrev pub message_counts_of : Bench → List ℕ
message_counts_of b = message_count b Vote ∷ message_count b Ack ∷ message_count b Help ∷ message_count b Helped ∷ []

abbrev pub words_if : Bool → Bool → List Outcome
words_if true true = Move ∷ Stay ∷ []
words_if true false = Move ∷ []
words_if false true = Stay ∷ []
words_if false false = []

abbrev pub words_put : Consensus → List Outcome
words_put k = words_if k.move_proposed k.stay_proposed

-- equal, as tests that compute
unfoldable pub same : {A : Type 0} → (A → A → Bool) → List A → List A → Bool
same eq [] [] = true
same eq [] (y ∷ ys) = false
same eq (x ∷ xs) [] = false
same eq (x ∷ xs) (y ∷ ys) = eq x y && same eq xs ys

abbrev pub same_outcome : Outcome → Outcome → Bool
same_outcome x y = eqb (outcome_number x) (outcome_number y)

abbrev pub same_line : Line → Line → Bool
same_line x y = eqb x.stage y.stage && same_outcome x.outcome y.outcome && eqb x.position y.position

abbrev pub same_inside : Inside → Inside → Bool
same_inside x y = eqb x.cnt y.cnt && eqb x.cnt-help y.cnt-help && same eqb x.callers y.callers && beq x.waits y.waits && same_outcome x.proposal y.proposal

-- what a bench shows is what the row says
unfoldable pub shows : Bench → Trial → Bool
shows b r = same same_line (each b.shared.n (line_of b)) r.lines
    && same eqb (message_counts_of b) r.message_counts
    && same same_outcome (words_put b.shared.consensus) r.words
    && same same_inside (each b.shared.n (inside_of b)) r.inside

unfoldable pub passes : Trial → Bool
passes r = same eqb (answers_to new_bench r.events) r.answers && shows (run new_bench r.events) r

-- what the event's controller sends is what the row says
abbrev pub messages_sent : Bench → Event → List Message
messages_sent b e = messages_of (identity b.shared (subject e)) (sends_at b e)

abbrev pub same_votes : VoteSet → VoteSet → Bool
same_votes x y = eqb x.known y.known && eqb x.willing y.willing

abbrev pub same_message : Message → Message → Bool
same_message x y = eqb (kind_number x.kind) (kind_number y.kind) && eqb x.n y.n && eqb x.f y.f && eqb x.from y.from && eqb x.to y.to
    && eqb x.order y.order && same_votes x.votes y.votes

unfoldable pub sends_as : SendTrial → Bool
sends_as r = is_accepted (reply (run new_bench r.events) r.last) && same same_message (messages_sent (run new_bench r.events) r.last) r.messages

-- a message of order 1
abbrev pub message : ℕ → ℕ → Kind → ℕ → ℕ → ℕ → ℕ → Message
message n f kind from to known willing = record { kind = kind; n = n; f = f; from = from; to = to; order = 1; votes = record { known = known; willing = willing } }
