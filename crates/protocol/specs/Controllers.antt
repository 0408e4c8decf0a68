-- What a controller shows, and the small changes that the rules are made of.
use Rattle.std.specs.Prelude.{ℕ, zero, suc, ◌-◌, Bool, true, false, cond, ◌&&◌, ◌||◌, List, ltb}
use Rattle.ground.specs.Lists.{nth, put}
use Rattle.ground.specs.Mask.{has, insert, remove}
use Rattle.votes.specs.VoteSets.{empty}
use Rattle.votes.specs.Joining.{contradicts, join, agreed_or}
use Rattle.votes.specs.declared.VoteSet.{VoteSet}
use Rattle.model.specs.Numbers.{is_none, says_move}
use Rattle.model.specs.declared.Outcome.{Outcome}
use Rattle.model.specs.declared.Outcome.TheVariants.{None, Stay, Move}
use Rattle.protocol.specs.declared.Condition.{Condition}
use Rattle.protocol.specs.declared.Condition.TheVariants.{Running, Stopped, Standby}
use Rattle.protocol.specs.declared.Acks.{Acks}
use Rattle.protocol.specs.declared.HelpAnswers.{HelpAnswers}
use Rattle.protocol.specs.declared.HelpState.{HelpState}
use Rattle.protocol.specs.declared.Gate.{Gate}
use Rattle.protocol.specs.declared.Controller.{Controller}

-- Document 01, "Words with values": "A controller's condition is running, stopped or standing by, and it carries the outcome, if any.
-- A running one has a stage, 0 to 3."
abbrev pub is_running : Condition → Bool
is_running (Running p) = true
is_running Stopped = false
is_running (Standby o) = false

abbrev pub is_standby : Condition → Bool
is_standby (Running p) = false
is_standby Stopped = false
is_standby (Standby o) = true

abbrev pub is_stopped : Condition → Bool
is_stopped (Running p) = false
is_stopped Stopped = true
is_stopped (Standby o) = false

-- running or standing by
abbrev pub is_present : Condition → Bool
is_present k = is_running k || is_standby k

abbrev pub phase_in : Condition → ℕ
phase_in (Running p) = p.phase
phase_in Stopped = 0
phase_in (Standby o) = 0

abbrev pub outcome_in : Condition → Outcome
outcome_in (Running p) = p.outcome
outcome_in Stopped = None
outcome_in (Standby o) = o

abbrev pub runs : Controller → Bool
runs c = is_running c.condition

abbrev pub does_stand_by : Controller → Bool
does_stand_by c = is_standby c.condition

abbrev pub phase : Controller → ℕ
phase c = phase_in c.condition

abbrev pub outcome : Controller → Outcome
outcome c = outcome_in c.condition

-- has it an acknowledgement of j; that acknowledgement; has it a help answer of j; has it taken a help call of j
abbrev pub has_ack : Controller → ℕ → Bool
has_ack c j = has c.acks.from j

abbrev pub ack_of : Controller → ℕ → VoteSet
ack_of c j = nth empty c.acks.sets j

abbrev pub has_helped : Controller → ℕ → Bool
has_helped c j = has c.helped.from j

abbrev pub has_called : Controller → ℕ → Bool
has_called c j = has c.help.callers j

abbrev pub in_phase : ℕ → Outcome → Condition
in_phase s o = Running (record { phase = s; outcome = o })

-- a controller with one part changed
abbrev with_condition : Controller → Condition → Controller
with_condition c k = record { condition = k; votes = c.votes; acks = c.acks; helped = c.helped; help = c.help; proposal = c.proposal; gate = c.gate }

abbrev pub with_votes : Controller → VoteSet → Controller
with_votes c s = record { condition = c.condition; votes = s; acks = c.acks; helped = c.helped; help = c.help; proposal = c.proposal; gate = c.gate }

abbrev with_acks : Controller → Acks → Controller
with_acks c a = record { condition = c.condition; votes = c.votes; acks = a; helped = c.helped; help = c.help; proposal = c.proposal; gate = c.gate }

abbrev with_helped : Controller → HelpAnswers → Controller
with_helped c h = record { condition = c.condition; votes = c.votes; acks = c.acks; helped = h; help = c.help; proposal = c.proposal; gate = c.gate }

abbrev pub with_help : Controller → HelpState → Controller
with_help c h = record { condition = c.condition; votes = c.votes; acks = c.acks; helped = c.helped; help = h; proposal = c.proposal; gate = c.gate }

abbrev with_proposal : Controller → Outcome → Controller
with_proposal c o = record { condition = c.condition; votes = c.votes; acks = c.acks; helped = c.helped; help = c.help; proposal = o; gate = c.gate }

abbrev with_gate : Controller → Gate → Controller
with_gate c g = record { condition = c.condition; votes = c.votes; acks = c.acks; helped = c.helped; help = c.help; proposal = c.proposal; gate = g }

-- nothing held; what stands in the list of acknowledgements no longer counts
abbrev pub no_acks : List VoteSet → Acks
no_acks sets = record { sets = sets; from = 0; cnt = record { 0 = 0 } }

abbrev pub no_helped : HelpAnswers
no_helped = record { votes = empty; from = 0; cnt_help = record { 0 = 0 } }

abbrev pub no_help : HelpState
no_help = record { waiting = false; votes = empty; callers = 0 }

-- a controller of this condition that holds nothing, its gate where it stood; and one that holds nothing but its position
abbrev pub blank : Condition → List VoteSet → ℕ → Controller
blank k sets position = record { condition = k; votes = empty; acks = no_acks sets; helped = no_helped; help = no_help; proposal = None; gate = record { target = 0; position = position } }

unfoldable pub cleared : Condition → Controller → Controller
cleared k c = blank k c.acks.sets c.gate.position

-- to a later stage
unfoldable pub advance : Controller → ℕ → Controller
advance c s = with_condition c (in_phase s (outcome c))

-- a vote set is joined to the controller's own. One that contradicts it would leave it as it was (such a message is refused before, `receive` in Calls).
unfoldable pub learn : Controller → VoteSet → Controller
learn c s = with_votes c (agreed_or c.votes (join c.votes s))

-- another target position
unfoldable pub aim : Controller → ℕ → Controller
aim c t = with_gate c (record { target = t; position = c.gate.position })

-- one more, as far as a byte counts (a lock has fewer senders)
abbrev pub bump : ℕ → ℕ
bump k = cond (ltb k 255) (suc k) k

-- an acknowledgement is kept and counted
unfoldable pub keep_ack : Controller → ℕ → VoteSet → Controller
keep_ack c j s = with_acks c (record { sets = put c.acks.sets j s; from = insert c.acks.from j; cnt = record { 0 = bump c.acks.cnt.0 } })

-- the acknowledgements without that of j, if it contradicts a vote set; and without all those of 1..m that do
unfoldable pub drop_if : VoteSet → ℕ → Acks → Acks
drop_if s j a = cond (has a.from j && contradicts (nth empty a.sets j) s) (record { sets = a.sets; from = remove a.from j; cnt = record { 0 = a.cnt.0 - 1 } }) a

unfoldable pub drop_to : ℕ → VoteSet → Acks → Acks
drop_to zero s a = a
drop_to (suc m) s a = drop_if s (suc m) (drop_to m s a)

-- Document 02, U7: ".. takes the telegram as not received, also one already held that its own vote contradicts." Its sender may be received again.
unfoldable pub drop_contradicting : ℕ → VoteSet → Controller → Controller
drop_contradicting n s c = with_acks c (drop_to n s c.acks)

-- a help answer is joined and counted
unfoldable pub keep_helped : Controller → ℕ → VoteSet → Controller
keep_helped c j s = with_helped c (record { votes = agreed_or c.helped.votes (join c.helped.votes s); from = insert c.helped.from j; cnt_help = record { 0 = bump c.helped.cnt_help.0 } })

-- the help vote set is frozen; the calls kept remain, to be answered with it
unfoldable pub freeze : Controller → VoteSet → Controller
freeze c s = with_help c (record { waiting = c.help.waiting; votes = s; callers = c.help.callers })

-- a help call is taken: to be kept, or answered at once
unfoldable pub add_caller : Controller → ℕ → Controller
add_caller c j = with_help c (record { waiting = c.help.waiting; votes = c.help.votes; callers = insert c.help.callers j })

-- it waits, or waits no more
abbrev pub waiting_as : Bool → HelpState → HelpState
waiting_as w h = record { waiting = w; votes = h.votes; callers = h.callers }

unfoldable pub await : Controller → Controller
await c = with_help c (waiting_as true c.help)

-- it has put a word, and waits no more
unfoldable pub propose : Controller → Outcome → Controller
propose c o = with_proposal (with_help c (waiting_as false c.help)) o

-- An outcome is taken if there is none, and waiting ends.
-- "**Move** as outcome sets a running gate's position to its target. One standing by notes outcomes, sends nothing and never moves."
abbrev pub or_else : Outcome → Outcome → Outcome
or_else None o = o
or_else Stay o = Stay
or_else Move o = Move

abbrev pub noting : Condition → Outcome → Condition
noting (Running p) o = Running (record { phase = p.phase; outcome = or_else p.outcome o })
noting Stopped o = Stopped
noting (Standby x) o = Standby (or_else x o)

-- does it move the gate: it runs, has no outcome yet, and this one is Move; and where the gate then stands
abbrev pub moves_in : Condition → Outcome → Bool
moves_in k o = is_running k && is_none (outcome_in k) && says_move o

abbrev pub landing : Condition → Outcome → Gate → ℕ
landing k o g = cond (moves_in k o) g.target g.position

unfoldable pub conclude : Controller → Outcome → Controller
conclude c o = with_gate (with_help (with_condition c (noting c.condition o)) (waiting_as false c.help))
    (record { target = c.gate.target; position = landing c.condition o c.gate })
