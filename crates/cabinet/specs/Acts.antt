-- THE CALLS THAT CHANGE A CABINET, each with its arguments: what it asks and makes of a cabinet; so what it answers on the words that C lends, and leaves in
-- them. Each exported function's contract names its own.
use Rattle.std.specs.Prelude.{ℕ, List}
use Rattle.model.specs.Questions.{number, first_no}
use Rattle.records.specs.Codec.{reads}
use Rattle.checkpoint_record.specs.Checkpoints.{checkpoints}
use Rattle.message_record.specs.Telegrams.{telegrams}
use Rattle.cabinet_state.specs.declared.Cabinet.{Cabinet}
use Rattle.cabinet_state.specs.States.{leave_number, leave_words}
use Rattle.cabinet_turns.specs.Asked.{begin_asked}
use Rattle.cabinet_turns.specs.Turns.{begun, ordered, voted, timed_out, decided, halted, woken}
use Rattle.cabinet_turns.specs.Ballots.{opened, received}
use Rattle.cabinet.specs.Calls.{call_number, call_words, order_number, vote_number, timeout_number, decide_number, present_number, receive_number, wake_number, open_number}

-- a telegram and a card by their bytes
pub data Act : Type 0 where
  Ordering : ℕ → Act
  Voting : ℕ → ℕ → Act
  Receiving : List ℕ → Act
  TimingOut : Act
  Deciding : ℕ → Act
  Stopping : Act
  Waking : List ℕ → Act
  Opening : ℕ → Act

abbrev pub number_of : Act → Cabinet → ℕ
number_of (Ordering k) s = order_number k s
number_of (Voting w t) s = vote_number w t s
number_of (Receiving bytes) s = receive_number (reads telegrams bytes) s
number_of TimingOut s = timeout_number s
number_of (Deciding w) s = decide_number w s
number_of Stopping s = present_number s
number_of (Waking bytes) s = wake_number (reads checkpoints bytes) s
number_of (Opening b) s = open_number b s

abbrev pub next_of : Act → Cabinet → Cabinet
next_of (Ordering k) s = ordered k s
next_of (Voting w t) s = voted w t s
next_of (Receiving bytes) s = received (reads telegrams bytes) s
next_of TimingOut s = timed_out s
next_of (Deciding w) s = decided w s
next_of Stopping s = halted s
next_of (Waking bytes) s = woken (reads checkpoints bytes) s
next_of (Opening b) s = opened b s

abbrev pub answer_to : Act → List ℕ → ℕ
answer_to a l = call_number l (number_of a)

abbrev pub words_after : Act → List ℕ → List ℕ
words_after a l = call_words l (number_of a) (next_of a)

-- **begin** asks nothing of the words but how many they are
abbrev pub begin_number : ℕ → ℕ → ℕ → ℕ → ℕ → ℕ
begin_number n f id own p = number (first_no (begin_asked n f id own p))

abbrev pub begin_answer : List ℕ → ℕ → ℕ → ℕ → ℕ → ℕ → ℕ
begin_answer l n f id own p = leave_number l (begin_number n f id own p)

abbrev pub begin_words : List ℕ → ℕ → ℕ → ℕ → ℕ → ℕ → List ℕ
begin_words l n f id own p = leave_words l (begin_number n f id own p) (begun n f id own p)
