-- A call on the words that C lends: what it answers, and what the words and each lent buffer hold after it. A call is refused for its state; or by the first of its
-- questions that is answered "no"; or it leaves the next cabinet. What is refused changes nothing.
use Rattle.std.specs.Prelude.{ℕ, cond, List, eqb, leb, length, slice_get, Option, Some, None}
use Rattle.model.specs.Questions.{number, first_no}
use Rattle.records.specs.Codec.{write_reply, writes, record_length}
use Rattle.checkpoint_record.specs.Checkpoints.{checkpoints}
use Rattle.checkpoint_record.specs.Checkpoints.{ReadCheckpoint}
use Rattle.message_record.specs.Telegrams.{ReadTelegram}
use Rattle.message_record.specs.Telegrams.{telegrams}
use Rattle.protocol.specs.Calls.{save}
use Rattle.cabinet_state.specs.declared.Cabinet.{Cabinet}
use Rattle.cabinet_state.specs.Words.{cabinet_of, words_of}
use Rattle.cabinet_state.specs.States.{state_refusal}
use Rattle.cabinet_turns.specs.Asked.{order_asked, vote_asked, timeout_asked, decide_asked, present_asked, wake_asked}
use Rattle.cabinet_turns.specs.Ballots.{opening_asked, receive_asked}
use Rattle.cabinet_turns.specs.Telegrams.{telegrams_sent}
use Rattle.cabinet_turns.specs.Shown.{shown}
use Rattle.model.specs.declared.Telegram.{Telegram}
use Rattle.model.specs.declared.Checkpoint.{Checkpoint}

-- the number: of the state, then of the questions
unfoldable pub call_number : List ℕ → (Cabinet → ℕ) → ℕ
call_number l q = cond (eqb (state_refusal l) 0) (q (cabinet_of l)) (state_refusal l)

-- the words: the next cabinet's where the number is 0, else as they were
unfoldable pub call_words : List ℕ → (Cabinet → ℕ) → (Cabinet → Cabinet) → List ℕ
call_words l q next = cond (eqb (call_number l q) 0) (words_of (next (cabinet_of l))) l

-- what each call asks of a cabinet
abbrev pub order_number : ℕ → Cabinet → ℕ
order_number k s = number (first_no (order_asked k s.me.order s.controller.condition))

abbrev pub vote_number : ℕ → ℕ → Cabinet → ℕ
vote_number willing target s = number (first_no (vote_asked willing target s.me.order s.controller.condition))

abbrev pub timeout_number : Cabinet → ℕ
timeout_number s = number (first_no (timeout_asked s.me.order s.controller.condition))

abbrev pub decide_number : ℕ → Cabinet → ℕ
decide_number move s = number (first_no (decide_asked move s.me.order s.controller.condition))

abbrev pub present_number : Cabinet → ℕ
present_number s = number (first_no (present_asked s.me.order s.controller.condition))

abbrev pub receive_number : ReadTelegram → Cabinet → ℕ
receive_number read s = number (first_no (receive_asked read s))

abbrev pub wake_number : ReadCheckpoint → Cabinet → ℕ
wake_number read s = number (first_no (wake_asked read s.me))

abbrev pub open_number : ℕ → Cabinet → ℕ
open_number b s = number (first_no (opening_asked b s))

-- **save**: the card into a buffer of its length; 14 before the first order, 15 where it is stopped
unfoldable pub card_reply : List ℕ → Option Checkpoint → ℕ
card_reply out None = 15
card_reply out (Some p) = number (write_reply checkpoints out p)

unfoldable pub card_after : List ℕ → Option Checkpoint → List ℕ
card_after out None = out
card_after out (Some p) = writes checkpoints out p

unfoldable pub card_number : List ℕ → Cabinet → ℕ
card_number out s = cond (leb 1 s.me.order) (card_reply out (save s.me s.controller)) 14

unfoldable pub card_bytes : List ℕ → Cabinet → List ℕ
card_bytes out s = cond (leb 1 s.me.order) (card_after out (save s.me s.controller)) out

-- a buffer that a call writes into: as it was, where the state is refused
unfoldable pub call_buffer : List ℕ → List ℕ → (Cabinet → List ℕ) → List ℕ
call_buffer l out g = cond (eqb (state_refusal l) 0) (g (cabinet_of l)) out

-- **telegram**: the one with k before it, into a buffer of its length; 17, "Was that telegram sent in this order?", where there are not so many
abbrev pub nth_telegram : ℕ → Cabinet → Option Telegram
nth_telegram k s = slice_get (telegrams_sent s) k

unfoldable pub sent_number : List ℕ → Option Telegram → ℕ
sent_number out None = 17
sent_number out (Some t) = number (write_reply telegrams out t)

unfoldable pub sent_bytes : List ℕ → Option Telegram → List ℕ
sent_bytes out None = out
sent_bytes out (Some t) = writes telegrams out t

abbrev pub telegram_number : ℕ → List ℕ → Cabinet → ℕ
telegram_number k out s = sent_number out (nth_telegram k s)

abbrev pub telegram_bytes : ℕ → List ℕ → Cabinet → List ℕ
telegram_bytes k out s = sent_bytes out (nth_telegram k s)

-- how long it is: 0 where there is none, or the state is refused
unfoldable pub sent_length : Option Telegram → ℕ
sent_length None = 0
sent_length (Some t) = record_length telegrams t

unfoldable pub length_number : ℕ → List ℕ → ℕ
length_number k l = cond (eqb (state_refusal l) 0) (sent_length (nth_telegram k (cabinet_of l))) 0

-- **show**: seven words; 1, where the buffer has not so many
unfoldable pub shown_number : List ℕ → Cabinet → ℕ
shown_number out s = cond (eqb (length out) 7) 0 1

unfoldable pub shown_words : List ℕ → Cabinet → List ℕ
shown_words out s = cond (eqb (length out) 7) (shown s) out
