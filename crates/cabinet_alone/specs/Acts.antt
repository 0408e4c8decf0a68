-- Lists of calls on a cabinet, and the calls on a controller alone (`protocol`, Alone) that they come to.
use Rattle.std.specs.Prelude.{cond, List, [], ◌∷◌, ◌++◌, eqb}
use Rattle.model.specs.declared.Telegram.{Telegram}
use Rattle.model.specs.declared.Telegram.TheVariants.{Plain, OfBallot}
use Rattle.records.specs.Codes.{flag_of}
use Rattle.records.specs.Codec.{reads}
use Rattle.checkpoint_record.specs.Checkpoints.{checkpoints}
use Rattle.checkpoint_record.specs.Checkpoints.{ReadCheckpoint}
use Rattle.std.specs.Prelude.{Ok, Err}
use Rattle.message_record.specs.Telegrams.{telegrams}
use Rattle.message_record.specs.Telegrams.{ReadTelegram}
use Rattle.protocol.specs.Alone.{Call, voting, receiving, timing-out, deciding, stopping, restoring, renewing}
use Rattle.cabinet_state.specs.declared.Cabinet.{Cabinet}
use Rattle.cabinet_turns.specs.Turns.{later_order}
use Rattle.cabinet.specs.Acts.{Act, Ordering, Voting, Receiving, TimingOut, Deciding, Stopping, Waking, Opening, number_of, next_of}

-- "What is refused changes nothing": `call_words` says so of the words
unfoldable pub after : Act → Cabinet → Cabinet
after a s = cond (eqb (number_of a s) 0) (next_of a s) s

unfoldable pub after_all : List Act → Cabinet → Cabinet
after_all [] s = s
after_all (a ∷ acts) s = after_all acts (after a s)

-- what an accepted call is for the controller: telegrams of ballots and openings leave it as it is, and waking is a stop, the card's order and a restore
abbrev pub telegram_calls : Telegram → List Call
telegram_calls (Plain m) = receiving m ∷ []
telegram_calls (OfBallot m) = []

abbrev pub read_calls : ReadTelegram → List Call
read_calls (Err q) = []
read_calls (Ok t) = telegram_calls t

abbrev pub card_calls : ReadCheckpoint → Cabinet → List Call
card_calls (Err q) s = []
card_calls (Ok p) s = stopping ∷ renewing (later_order s.me.order p.order) ∷ restoring p ∷ []

abbrev pub calls_of : Act → Cabinet → List Call
calls_of (Ordering k) s = renewing k ∷ []
calls_of (Voting w t) s = voting (flag_of w) t ∷ []
calls_of (Receiving bytes) s = read_calls (reads telegrams bytes)
calls_of TimingOut s = timing-out ∷ []
calls_of (Deciding w) s = deciding (flag_of w) ∷ []
calls_of Stopping s = stopping ∷ []
calls_of (Waking bytes) s = card_calls (reads checkpoints bytes) s
calls_of (Opening b) s = []

unfoldable pub all_calls : List Act → Cabinet → List Call
all_calls [] s = []
all_calls (a ∷ acts) s = cond (eqb (number_of a s) 0) (calls_of a s) [] ++ all_calls acts (after a s)
