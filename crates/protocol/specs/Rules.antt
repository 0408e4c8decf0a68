-- Document 01, "A controller's rules", one function a rule: controller i of a lock of n controllers, f of them backups
-- (document 01: holders; the second backup is its second holder, f + 1). Stages are phases, bells are timeouts. A rule that another uses stands before it:
-- Waiting before the second timeout, and the arrivals that may end waiting after it.
use Rattle.std.specs.Prelude.{ℕ, suc, ◌+◌, Bool, true, false, cond, not, ◌&&◌, ◌||◌, leb, ltb}
use Rattle.std.specs.Prelude.{Option, Some, None}
use Rattle.ground.specs.Quantify.{all_to}
use Rattle.ground.specs.Mask.{insert}
use Rattle.votes.specs.VoteSets.{empty, single, complete}
use Rattle.votes.specs.Joining.{join_next, join_all, unanimous_in, agreed_or}
use Rattle.votes.specs.declared.VoteSet.{VoteSet}
use Rattle.votes.specs.Joining.{Joined}
use Rattle.std.specs.Prelude.{Ok}
use Rattle.model.specs.Ranges.{is_backup}
use Rattle.model.specs.Routes.{recipients}
use Rattle.model.specs.Numbers.{word_of}
use Rattle.model.specs.declared.Kind.TheVariants.{Vote, Ack, Help}
use Rattle.model.specs.declared.Outcome.{Outcome}
use Rattle.model.specs.declared.Outcome.TheVariants.{None}
use Rattle.protocol.specs.declared.Controller.{Controller}
use Rattle.protocol.specs.declared.Sends.{Sends}
use Rattle.protocol.specs.declared.Reception.{Reception}
use Rattle.protocol.specs.declared.Reception.TheVariants.{Taken, PassedOver, Contradicted}
use Rattle.protocol.specs.declared.Answer.{Answer}
use Rattle.protocol.specs.Controllers.{phase, has_ack, ack_of, has_helped, has_called, advance, learn, aim, keep_ack, keep_helped, freeze, add_caller, await, propose, conclude}
use Rattle.protocol.specs.declared.Outgoing.{Outgoing}

-- what is sent of a kind: one vote set to a set of controllers
abbrev pub send_to : ℕ → VoteSet → Option Outgoing
send_to to s = Some (record { to = to; votes = s })

-- what an answer may send: nothing; a vote; an acknowledgement; help calls and the help vote set, to be sent or to be held ready
abbrev pub nothing : Sends
nothing = record { vote = None; ack = None; help = None; helped = None }

abbrev pub votes_to : ℕ → VoteSet → Sends
votes_to to s = record { vote = send_to to s; ack = None; help = None; helped = None }

abbrev pub acks_to : ℕ → VoteSet → Sends
acks_to to s = record { vote = None; ack = send_to to s; help = None; helped = None }

abbrev pub helps : Option Outgoing → Option Outgoing → Sends
helps call answer = record { vote = None; ack = None; help = call; helped = answer }

-- what an answer says in the papers' terms: 0, also where the call was passed over; or 24, a vote set that contradicts one held
abbrev pub reception_number : Reception → ℕ
reception_number Taken = 0
reception_number PassedOver = 0
reception_number Contradicted = 24

abbrev pub is_taken : Reception → Bool
is_taken Taken = true
is_taken PassedOver = false
is_taken Contradicted = false

abbrev pub is_contradicted : Reception → Bool
is_contradicted Taken = false
is_contradicted PassedOver = false
is_contradicted Contradicted = true

-- what an answer may be: passed over, or refused with 24, with nothing changed; or taken, with a next controller and what it sends; and a word put besides
unfoldable pub passing_over : Controller → Answer
passing_over c = record { reception = PassedOver; controller = c; sends = nothing; proposal = None }

unfoldable pub contradicted : Controller → Answer
contradicted c = record { reception = Contradicted; controller = c; sends = nothing; proposal = None }

abbrev pub sending : Controller → Sends → Answer
sending c s = record { reception = Taken; controller = c; sends = s; proposal = None }

unfoldable pub becomes : Controller → Answer
becomes c = record { reception = Taken; controller = c; sends = nothing; proposal = None }

unfoldable pub proposing : Answer → Outcome → Answer
proposing a o = record { reception = a.reception; controller = propose a.controller o; sends = a.sends; proposal = o }

-- the word of a join: "Move if all n are known and willing, else Stay". Where the vote sets contradict each other there is no join, and the word is Stay; no
-- controller meets that, since it holds no two that do: on the bench (NoContradiction) as alone, whatever comes over its line (Alone).
unfoldable pub verdict : ℕ → Joined → Outcome
verdict n j = word_of (unanimous_in n j)

-- **Vote** (stage 0): "Its own vote goes on its sheet. It sends a vote telegram to every other controller of 1 to f; a holder also sends one to f + 1.
-- Controllers 1 to f + 1 go to stage 1, others to stage 2."
abbrev pub phase_after_vote : ℕ → ℕ → ℕ
phase_after_vote f i = cond (leb i (suc f)) 1 2

unfoldable pub vote_rule : ℕ → ℕ → ℕ → Bool → ℕ → Controller → Answer
vote_rule n f i willing target c =
    sending (advance (aim (learn c (single i willing)) target) (phase_after_vote f i)) (votes_to (recipients n f Vote i) (single i willing))

-- **Vote arrives**: "at stage 0 or 1 it goes on the sheet; later it is passed over."
unfoldable pub vote_arrives : VoteSet → Controller → Answer
vote_arrives s c = cond (leb (phase c) 1) (becomes (learn c s)) (passing_over c)

-- **Bell at stage 1** (the first bell): "the sheet is frozen as the acknowledgement. A holder sends it to all others and counts its own as received.
-- Controller f + 1 sends it to the holders only and does not count its own. To stage 2."
unfoldable pub count_own : ℕ → ℕ → Controller → Controller
count_own f i c = cond (is_backup f i && not (has_ack c i)) (keep_ack c i c.votes) c

unfoldable pub first_timeout : ℕ → ℕ → ℕ → Controller → Answer
first_timeout n f i c = sending (advance (count_own f i c) 2) (acks_to (recipients n f Ack i) c.votes)

-- the join of the acknowledgements held
unfoldable pub ack_join : ℕ → Controller → Joined
ack_join n c = join_all n c.acks.from c.acks.sets

-- "If acknowledgements from all of 1 to f are held and full and, for a holder, the one of f + 1 is held and knows all of 1 to f"
unfoldable pub backups_complete : ℕ → ℕ → Controller → Bool
backups_complete n f c = all_to f (λ j. has_ack c j && complete n (ack_of c j))

unfoldable pub second_knows : ℕ → Controller → Bool
second_knows f c = has_ack c (suc f) && complete f (ack_of c (suc f))

unfoldable pub decides : ℕ → ℕ → ℕ → Controller → Bool
decides n f i c = backups_complete n f c && (not (is_backup f i) || second_knows f c)

-- **Waiting**: "When the two counts add up to n − f or more (tested at the bell too), it puts a word: of the join of acknowledgements if it holds any,
-- else of the join of help answers."
unfoldable pub sufficient : ℕ → ℕ → Controller → Bool
sufficient n f c = c.help.waiting && leb n (c.acks.cnt.0 + c.helped.cnt_help.0 + f)

unfoldable pub answers_join : ℕ → Controller → Joined
answers_join n c = cond (ltb 0 c.acks.cnt.0) (ack_join n c) (Ok c.helped.votes)

unfoldable pub propose_if_sufficient : ℕ → ℕ → Answer → Answer
propose_if_sufficient n f a = cond (sufficient n f a.controller) (proposing a (verdict n (answers_join n a.controller))) a

-- **Bell at stage 2** (the second bell): "to stage 3. The help sheet is the join of own sheet and acknowledgements held, then frozen." Where these contradict
-- each other, which no controller meets (Alone), it is the own vote set.
unfoldable pub help_votes : ℕ → Controller → VoteSet
help_votes n c = agreed_or c.votes (join_next (ack_join n c) c.votes)

unfoldable pub frozen : ℕ → Controller → Controller
frozen n c = freeze (advance c 3) (help_votes n c)

-- Document 02, U4: a call kept is "answered at the second bell, after its own calls, in rising order of caller" (Sequence.antt has the sequence), whatever
-- comes of the timeout. The help vote set s goes to those callers, and is ready from now on for those who call later: it is fixed, also if its owner stops.
unfoldable pub ready : VoteSet → Controller → Answer
ready s next = sending next (helps None (send_to next.help.callers s))

-- "Otherwise it waits, sends help calls to all others of f + 1 to n, and counts its own help sheet as an answer."
unfoldable pub calls_help : ℕ → ℕ → ℕ → VoteSet → Controller → Answer
calls_help n f i s c = sending (keep_helped (await c) i s) (helps (send_to (recipients n f Help i) empty) (send_to c.help.callers s))

-- the outcome, or else a word put ("Otherwise, if at least one is held, it puts the word of their join to the arbiter"), or else it waits
unfoldable pub second_timeout : ℕ → ℕ → ℕ → Controller → Answer
second_timeout n f i c = cond (decides n f i c)
    (ready (help_votes n c) (conclude (frozen n c) (verdict n (ack_join n c))))
    (cond (ltb 0 c.acks.cnt.0)
    (proposing (ready (help_votes n c) (frozen n c)) (verdict n (ack_join n c)))
    (propose_if_sufficient n f (calls_help n f i (help_votes n c) (frozen n c))))

-- **Acknowledgement arrives**: "kept, one per sender"; waiting, it may complete the count; "After a word or an outcome, more of either is passed over."
-- "One departure: the printed appendix lets a waiting process decide directly when all full acknowledgements come late. .. Here it puts a word."
unfoldable pub ack_arrives : ℕ → ℕ → ℕ → VoteSet → Controller → Answer
ack_arrives n f j s c =
    cond (not (has_ack c j) && (leb (phase c) 2 || c.help.waiting)) (propose_if_sufficient n f (becomes (keep_ack c j s))) (passing_over c)

-- **Waiting**: "Acknowledgements and help answers are counted apart, one per sender."
unfoldable pub helped_arrives : ℕ → ℕ → ℕ → VoteSet → Controller → Answer
helped_arrives n f j s c =
    cond (not (has_helped c j) && c.help.waiting) (propose_if_sufficient n f (becomes (keep_helped c j s))) (passing_over c)

-- **Help call arrives**, as document 02, U4 amends it: "a call that comes before stage 3 is kept, one per caller"; "at stage 3 the help sheet is sent back,
-- once per caller." A call kept and answered at the second timeout is not answered again.
unfoldable pub keeps_call : ℕ → Controller → Answer
keeps_call j c = becomes (add_caller c j)

unfoldable pub answers_call : ℕ → Controller → Answer
answers_call j c = sending (add_caller c j) (helps None (send_to (insert 0 j) c.help.votes))

unfoldable pub help_arrives : ℕ → Controller → Answer
help_arrives j c = cond (has_called c j) (passing_over c) (cond (leb (phase c) 2) (keeps_call j c) (answers_call j c))
