-- Telegrams that arrive, and ballots (document 02, U14). Of its own ballots a cabinet keeps the one that it opened last; a telegram to an older one counts as lost.
use Rattle.std.specs.Prelude.{ℕ, Bool, true, false, cond, not, ◌&&◌, List, [], ◌∷◌, eqb}
use Rattle.ground.specs.Mask.{insert}
use Rattle.model.specs.Numbers.{is_none, outcome_number}
use Rattle.model.specs.Questions.{Question, ask}
use Rattle.model.specs.declared.Outcome.{Outcome}
use Rattle.model.specs.declared.Outcome.TheVariants.{None}
use Rattle.model.specs.declared.BallotKind.{BallotKind}
use Rattle.model.specs.declared.BallotKind.TheVariants.{Prepare, Promise, Accept, Accepted}
use Rattle.model.specs.declared.BallotMessage.{BallotMessage}
use Rattle.model.specs.declared.Telegram.{Telegram}
use Rattle.model.specs.declared.Telegram.TheVariants.{Plain, OfBallot}
use Rattle.message_record.specs.Telegrams.{ReadTelegram}
use Rattle.std.specs.Prelude.{Ok, Err}
use Rattle.protocol.specs.declared.Report.{Report}
use Rattle.protocol.specs.declared.Tally.{Tally}
use Rattle.protocol.specs.declared.BallotAnswer.{BallotAnswer}
use Rattle.protocol.specs.Rules.{is_contradicted}
use Rattle.protocol.specs.Calls.{receive}
use Rattle.protocol.specs.Ballots.{majority, new_tally}
use Rattle.protocol.specs.BallotCalls.{takes_part, may_open_alone, open_call, ballot_comes, receive_ballot, is_owner}
use Rattle.cabinet_state.specs.declared.BallotState.{BallotState}
use Rattle.cabinet_state.specs.declared.Cabinet.{Cabinet}
use Rattle.cabinet_turns.specs.Asked.{open_asked}
use Rattle.cabinet_turns.specs.Turns.{answered}

-- what it has counted for ballot b
unfoldable pub tally_for : ℕ → BallotState → Tally
tally_for b x = cond (eqb b x.opened) x.tally new_tally

-- the promise given last, after an answer
unfoldable pub report_after : Report → BallotAnswer → Report
report_after old x = cond x.promise.given x.promise old

unfoldable pub with_ballots : Cabinet → BallotState → Cabinet
with_ballots s x = record { me = s.me; own = s.own; controller = s.controller; sent = s.sent; ballots = x }

-- **open** ballot b
unfoldable pub may_open : ℕ → Cabinet → Bool
may_open b s = may_open_alone s.me b s.ballots.acceptor (tally_for b s.ballots)

unfoldable pub has_put : Cabinet → Bool
has_put s = s.own && not (is_none s.controller.proposal)

abbrev pub opening_asked : ℕ → Cabinet → List Question
opening_asked b s = open_asked s.me.order s.controller.condition (may_open b s) (has_put s)

-- who has accepted the word of its own ballot, after an answer there: itself, if it did
unfoldable pub by_itself : Bool → ℕ → ℕ → ℕ
by_itself accepts id by = cond accepts (insert by id) by

unfoldable pub opened_by : ℕ → Cabinet → BallotAnswer → Cabinet
opened_by b s x = with_ballots s (record {
  acceptor = x.acceptor;
  report = report_after s.ballots.report x;
  opened = b;
  tally = x.tally;
  accepted_by = by_itself x.accepts s.me.id 0;
})

unfoldable pub opened : ℕ → Cabinet → Cabinet
opened b s = opened_by b s (open_call s.me s.own b s.controller s.ballots.acceptor (tally_for b s.ballots))

-- a telegram of a ballot arrives: does it say that its sender has accepted the word of this cabinet's own ballot?
abbrev pub says_accepted : BallotKind → Bool
says_accepted Prepare = false
says_accepted Promise = false
says_accepted Accept = false
says_accepted Accepted = true

abbrev pub same_word : Outcome → Outcome → Bool
same_word a b = eqb (outcome_number a) (outcome_number b)

unfoldable pub accepts : BallotMessage → Cabinet → Bool
accepts m s = says_accepted m.kind && same_word m.word (tally_for m.ballot s.ballots).word
    && (takes_part s.me s.own s.controller && ballot_comes s.me m (tally_for m.ballot s.ballots))

unfoldable pub by_after : BallotMessage → Cabinet → BallotAnswer → ℕ
by_after m s x = cond (accepts m s) (insert s.ballots.accepted_by m.from)
    (by_itself (x.accepts && is_owner s.me m.ballot) s.me.id s.ballots.accepted_by)

unfoldable pub tally_after : ℕ → BallotState → Tally → Tally
tally_after b old t = cond (eqb b old.opened) t old.tally

unfoldable pub answered_in : BallotMessage → Cabinet → BallotAnswer → Cabinet
answered_in m s x = with_ballots s (record {
  acceptor = x.acceptor;
  report = report_after s.ballots.report x;
  opened = s.ballots.opened;
  tally = tally_after m.ballot s.ballots x.tally;
  accepted_by = by_after m s x;
})

unfoldable pub received_ballot : BallotMessage → Cabinet → Cabinet
received_ballot m s = answered_in m s (receive_ballot s.me s.own m s.controller s.ballots.acceptor (tally_for m.ballot s.ballots))

-- **receive**: what reading asks; then 24 of kinds 1 to 4. One that is passed over is accepted and changes nothing.
unfoldable pub telegram_asked : Telegram → Cabinet → List Question
telegram_asked (Plain m) s = ask 24 (not (is_contradicted (receive s.me m s.controller).reception)) ∷ []
telegram_asked (OfBallot m) s = []

unfoldable pub receive_asked : ReadTelegram → Cabinet → List Question
receive_asked (Err q) s = ask q false ∷ []
receive_asked (Ok t) s = telegram_asked t s

unfoldable pub received_telegram : Telegram → Cabinet → Cabinet
received_telegram (Plain m) s = answered s (receive s.me m s.controller)
received_telegram (OfBallot m) s = received_ballot m s

unfoldable pub received : ReadTelegram → Cabinet → Cabinet
received (Err q) s = s
received (Ok t) s = received_telegram t s

-- the word that its own ballot has settled, as far as it knows: more than n/2 have accepted it there
unfoldable pub settled : Cabinet → Outcome
settled s = cond (majority s.me.n s.ballots.accepted_by) s.ballots.tally.word None
