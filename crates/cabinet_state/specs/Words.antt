-- A cabinet's state as words of 32 bits: what stands in which word, the cabinet that words stand for, and the words of a cabinet.
use Rattle.std.specs.Prelude.{ℕ, zero, suc, ◌+◌, ◌*◌, ◌-◌, ◌%◌, cond, List, [], ◌∷◌, eqb, ltb, get_or}
use Rattle.ground.specs.Limit.{limit}
use Rattle.votes.specs.VoteSets.{empty}
use Rattle.votes.specs.declared.VoteSet.{VoteSet}
use Rattle.model.specs.Numbers.{outcome_number}
use Rattle.records.specs.Codes.{outcome_of, flag_of, flag_number}
use Rattle.protocol.specs.declared.Condition.{Condition}
use Rattle.protocol.specs.declared.Condition.TheVariants.{Running, Stopped, Standby}
use Rattle.protocol.specs.declared.Identity.{Identity}
use Rattle.protocol.specs.declared.Outgoing.{Outgoing}
use Rattle.protocol.specs.declared.Sent.{Sent}
use Rattle.protocol.specs.declared.Acks.{Acks}
use Rattle.protocol.specs.declared.HelpAnswers.{HelpAnswers}
use Rattle.protocol.specs.declared.HelpState.{HelpState}
use Rattle.protocol.specs.declared.Controller.{Controller}
use Rattle.protocol.specs.declared.Acceptor.{Acceptor}
use Rattle.protocol.specs.declared.Tally.{Tally}
use Rattle.protocol.specs.declared.Report.{Report}
use Rattle.protocol.specs.Controllers.{phase_in, outcome_in}
use Rattle.cabinet_state.specs.declared.BallotState.{BallotState}
use Rattle.cabinet_state.specs.declared.Cabinet.{Cabinet}
use Rattle.cabinet_state.specs.Tables.{tabulate}

-- THE PLACES. Word 0 has the mark, 4C 43, and the version of the encoding. Then the head (identity, controller, what was sent), what is kept of ballots, who is
-- known on each acknowledgement, who is willing on each, and the check word last.
abbrev pub mark_word : ℕ
mark_word = 0x4C430001

abbrev pub head_words : ℕ
head_words = 36

abbrev pub known_place : ℕ
known_place = 49

abbrev pub willing_place : ℕ
willing_place = 81

abbrev pub check_place : ℕ
check_place = 113

abbrev pub state_words : ℕ
state_words = 114

-- READING. A word, 0 past the end; one that holds a byte; a flag; an outcome
abbrev pub word : List ℕ → ℕ → ℕ
word l k = get_or l k 0

abbrev pub small : List ℕ → ℕ → ℕ
small l k = word l k % 256

abbrev pub set_in : List ℕ → ℕ → VoteSet
set_in l k = record { known = word l k; willing = word l (k + 1) }

abbrev pub outgoing_in : List ℕ → ℕ → Outgoing
outgoing_in l k = record { to = word l k; votes = set_in l (k + 1) }

abbrev pub condition_from : ℕ → ℕ → ℕ → Condition
condition_from tag phase o = cond (eqb tag 0) (Running (record { phase = phase; outcome = outcome_of o })) (cond (eqb tag 1) Stopped (Standby (outcome_of o)))

unfoldable pub identity_in : List ℕ → Identity
identity_in l = record { n = small l 1; f = small l 2; id = small l 3; order = word l 4 }

unfoldable pub condition_in : List ℕ → Condition
condition_in l = condition_from (small l 6) (small l 7) (small l 8)

unfoldable pub sets_in : List ℕ → List VoteSet
sets_in l = tabulate limit (λ j. record { known = word l (known_place + j); willing = word l (willing_place + j) })

unfoldable pub acks_in : List ℕ → Acks
acks_in l = record { sets = sets_in l; from = word l 15; cnt = record { 0 = small l 9 } }

unfoldable pub helped_in : List ℕ → HelpAnswers
helped_in l = record { votes = set_in l 16; from = word l 18; cnt_help = record { 0 = small l 10 } }

unfoldable pub help_in : List ℕ → HelpState
help_in l = record { waiting = flag_of (small l 11); votes = set_in l 19; callers = word l 21 }

unfoldable pub controller_in : List ℕ → Controller
controller_in l = record {
  condition = condition_in l;
  votes = set_in l 13;
  acks = acks_in l;
  helped = helped_in l;
  help = help_in l;
  proposal = outcome_of (small l 12);
  gate = record { target = word l 22; position = word l 23 };
}

unfoldable pub sent_in : List ℕ → Sent
sent_in l = record { vote = outgoing_in l 24; ack = outgoing_in l 27; help = outgoing_in l 30; helped = outgoing_in l 33 }

unfoldable pub acceptor_in : List ℕ → Acceptor
acceptor_in l = record { highest = small l 36; promised = small l 37; last = small l 38; word = outcome_of (small l 39) }

unfoldable pub report_in : List ℕ → Report
report_in l = record { given = flag_of (small l 40); last = small l 41; word = outcome_of (small l 42) }

unfoldable pub tally_in : List ℕ → Tally
tally_in l = record { from = word l 44; top = small l 45; top_word = outcome_of (small l 46); word = outcome_of (small l 47) }

unfoldable pub ballots_in : List ℕ → BallotState
ballots_in l = record { acceptor = acceptor_in l; report = report_in l; opened = small l 43; tally = tally_in l; accepted_by = word l 48 }

unfoldable pub cabinet_of : List ℕ → Cabinet
cabinet_of l = record { me = identity_in l; own = flag_of (small l 5); controller = controller_in l; sent = sent_in l; ballots = ballots_in l }

-- WRITING
abbrev pub tag_of : Condition → ℕ
tag_of (Running p) = 0
tag_of Stopped = 1
tag_of (Standby o) = 2

-- the head, with its small numbers first
unfoldable pub head_from : ℕ → ℕ → ℕ → ℕ → ℕ → ℕ → ℕ → ℕ → ℕ → ℕ → ℕ → Cabinet → List ℕ
head_from n f id own tag phase o cnt help waiting proposal s =
    mark_word
    ∷ n
    ∷ f
    ∷ id
    ∷ s.me.order
    ∷ own
    ∷ tag
    ∷ phase
    ∷ o
    ∷ cnt
    ∷ help
    ∷ waiting
    ∷ proposal
    ∷ s.controller.votes.known
    ∷ s.controller.votes.willing
    ∷ s.controller.acks.from
    ∷ s.controller.helped.votes.known
    ∷ s.controller.helped.votes.willing
    ∷ s.controller.helped.from
    ∷ s.controller.help.votes.known
    ∷ s.controller.help.votes.willing
    ∷ s.controller.help.callers
    ∷ s.controller.gate.target
    ∷ s.controller.gate.position
    ∷ s.sent.vote.to
    ∷ s.sent.vote.votes.known
    ∷ s.sent.vote.votes.willing
    ∷ s.sent.ack.to
    ∷ s.sent.ack.votes.known
    ∷ s.sent.ack.votes.willing
    ∷ s.sent.help.to
    ∷ s.sent.help.votes.known
    ∷ s.sent.help.votes.willing
    ∷ s.sent.helped.to
    ∷ s.sent.helped.votes.known
    ∷ s.sent.helped.votes.willing
    ∷ []

unfoldable pub head_of : Cabinet → List ℕ
head_of s =
    head_from
    s.me.n
    s.me.f
    s.me.id
    (flag_number s.own)
    (tag_of s.controller.condition)
    (phase_in s.controller.condition)
    (outcome_number (outcome_in s.controller.condition))
    s.controller.acks.cnt.0
    s.controller.helped.cnt_help.0
    (flag_number s.controller.help.waiting)
    (outcome_number s.controller.proposal)
    s

-- what is kept of ballots
unfoldable pub ballots_from : ℕ → ℕ → ℕ → ℕ → ℕ → ℕ → ℕ → ℕ → ℕ → ℕ → ℕ → ℕ → ℕ → List ℕ
ballots_from highest promised last taken given rlast rword opened from top top_word_of put by =
    highest ∷ promised ∷ last ∷ taken ∷ given ∷ rlast ∷ rword ∷ opened ∷ from ∷ top ∷ top_word_of ∷ put ∷ by ∷ []

unfoldable pub ballots_of : BallotState → List ℕ
ballots_of b =
    ballots_from
    b.acceptor.highest
    b.acceptor.promised
    b.acceptor.last
    (outcome_number b.acceptor.word)
    (flag_number b.report.given)
    b.report.last
    (outcome_number b.report.word)
    b.opened
    b.tally.from
    b.tally.top
    (outcome_number b.tally.top_word)
    (outcome_number b.tally.word)
    b.accepted_by

-- the word at a place before the check word
unfoldable pub column_in : List ℕ → List ℕ → List VoteSet → ℕ → ℕ
column_in head ballots sets k =
    cond (ltb k head_words) (get_or head k 0) (cond (ltb k known_place) (get_or ballots (k - head_words) 0)
    (cond (ltb k willing_place) (get_or sets (k - known_place) empty).known (get_or sets (k - willing_place) empty).willing))

-- a check of n words: the sum of each word times a power of 31, the later the lower, from 1 on, in 32 bits
unfoldable pub check_to : ℕ → (ℕ → ℕ) → ℕ
check_to zero g = 1
check_to (suc n) g = (check_to n g * 31 + g n) % 4294967296

-- every word, with the check word at the end
abbrev pub with_check : ℕ → (ℕ → ℕ) → ℕ → ℕ
with_check check g k = cond (ltb k check_place) (g k) check

abbrev pub column_of : Cabinet → ℕ → ℕ
column_of s = column_in (head_of s) (ballots_of s.ballots) s.controller.acks.sets

abbrev pub check_of : Cabinet → ℕ
check_of s = check_to check_place (column_of s)

unfoldable pub words_of : Cabinet → List ℕ
words_of s = tabulate state_words (with_check (check_of s) (column_of s))
