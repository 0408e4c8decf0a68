-- What may be asked of a controller, in its lock or alone in a cabinet: the rules behind the tests of condition, stage and address.
-- A call at a wrong stage or in a wrong condition changes nothing, and its answer says so.
use Rattle.std.specs.Prelude.{ℕ, ◌≡◌, Bool, cond, ◌&&◌, ◌||◌, [], ◌∷◌, eqb, leb, Option, Some, None, option_to_list}
use Rattle.ground.specs.Quantify.{any_to}
use Rattle.votes.specs.VoteSets.{single}
use Rattle.votes.specs.Joining.{contradicts}
use Rattle.votes.specs.declared.VoteSet.{VoteSet}
use Rattle.model.specs.Ranges.{sizes_in_range, is_controller}
use Rattle.model.specs.Routes.{route}
use Rattle.model.specs.Numbers.{word_of}
use Rattle.model.specs.declared.Kind.{Kind}
use Rattle.model.specs.declared.Kind.TheVariants.{Vote, Ack, Help, Helped}
use Rattle.model.specs.declared.Message.{Message}
use Rattle.message_record.specs.Messages.{suits}
use Rattle.model.specs.declared.Checkpoint.{Checkpoint}
use Rattle.model.specs.declared.Outcome.TheVariants.{None}
use Rattle.protocol.specs.declared.Identity.{Identity}
use Rattle.protocol.specs.declared.Condition.TheVariants.{Stopped, Standby}
use Rattle.protocol.specs.declared.Controller.{Controller}
use Rattle.protocol.specs.declared.Answer.{Answer}
use Rattle.protocol.specs.Controllers.{runs, does_stand_by, is_stopped, phase, outcome, has_ack, ack_of, in_phase, cleared, drop_contradicting, conclude}
use Rattle.protocol.specs.Rules.{is_taken, passing_over, contradicted, becomes, vote_rule, vote_arrives, first_timeout, second_timeout, ack_arrives, helped_arrives, help_arrives}

-- a controller of a lock, in an order
unfoldable pub valid_identity : Identity → Bool
valid_identity me = sizes_in_range me.n me.f && is_controller me.n me.id && leb 1 me.order

-- **Vote** (stage 0). Document 02, U7: an acknowledgement held that the own vote contradicts counts as not received.
unfoldable pub vote : Identity → Bool → ℕ → Controller → Answer
vote me willing target c = cond (valid_identity me && runs c && eqb (phase c) 0)
    (vote_rule me.n me.f me.id willing target (drop_contradicting me.n (single me.id willing) c)) (passing_over c)

-- "a controller passes over any [telegram] of another order, n or f, or meant for another controller", and any that may not travel so
unfoldable pub addressed : Identity → Message → Bool
addressed me m = eqb m.order me.order && eqb m.n me.n && eqb m.f me.f && eqb m.to me.id
    && is_controller me.n m.from && route me.f m.kind m.from me.id

unfoldable pub arrives : Kind → ℕ → ℕ → ℕ → VoteSet → Controller → Answer
arrives Vote n f from s c = vote_arrives s c
arrives Ack n f from s c = ack_arrives n f from s c
arrives Help n f from s c = help_arrives from c
arrives Helped n f from s c = helped_arrives n f from s c

-- Document 02, U7: does a vote set contradict "its own sheet, acknowledgements and help answers", any one that is held?
unfoldable pub contradicts_held : ℕ → Controller → VoteSet → Bool
contradicts_held n c s = contradicts c.votes s || contradicts c.helped.votes s || any_to n (λ j. has_ack c j && contradicts (ack_of c j) s)

-- "takes the telegram as not received"; "One that is passed over anyway .. is not tested": a is the answer without the test
unfoldable pub tested : ℕ → VoteSet → Controller → Answer → Answer
tested n s c a = cond (is_taken a.reception && contradicts_held n c s) (contradicted c) a

-- A message arrives. One whose vote set does not suit its kind (question 9) is passed over, as reading would have refused it: so nobody but the controller
-- itself puts its vote on its vote set.
unfoldable pub receive : Identity → Message → Controller → Answer
receive me m c = cond (valid_identity me && runs c && addressed me m && suits m)
    (tested me.n m.votes c (arrives m.kind me.n me.f m.from m.votes c)) (passing_over c)

-- **Bell**
unfoldable pub timeout : Identity → Controller → Answer
timeout me c = cond (valid_identity me && runs c && eqb (phase c) 1) (first_timeout me.n me.f me.id c)
    (cond (valid_identity me && runs c && eqb (phase c) 2) (second_timeout me.n me.f me.id c) (passing_over c))

-- **Arbiter's word**: "becomes the outcome if there is none." A running controller takes it at stage 3.
unfoldable pub awaits_decision : Controller → Bool
awaits_decision c = does_stand_by c || (runs c && eqb (phase c) 3)

unfoldable pub decide : Bool → Controller → Answer
decide move c = cond (awaits_decision c) (becomes (conclude c (word_of move))) (passing_over c)

-- **Stop** "ends everything, outcome included, but the gate's position, its cards and what it has sent or put": those are the bench's (`station_after`, Steps)
unfoldable pub stop : Controller → Answer
stop c = cond (runs c || does_stand_by c) (becomes (cleared Stopped c)) (passing_over c)

-- **Save** "makes the card"
unfoldable pub checkpoint_of : Identity → Controller → Checkpoint
checkpoint_of me c = record { id = me.id; n = me.n; f = me.f; outcome = outcome c; order = me.order; position = c.gate.position }

unfoldable pub save : Identity → Controller → Option Checkpoint
save me c = cond (runs c || does_stand_by c) (Some (checkpoint_of me c)) None

-- what its answer says in document 01's terms: 0 and the checkpoint; or 15, "Is the condition right?", and none
abbrev pub saved_number : Option Checkpoint → ℕ
saved_number None = 15
saved_number (Some p) = 0

-- what is promised of the answer to a save. 15 asks "save: running or standing by"
pub record SaveOf (me : Identity) (c : Controller) (r : Option Checkpoint) : Type 0 where
  pub answer : r ≡ save me c
  pub number : saved_number r ≡ cond (runs c || does_stand_by c) 0 15
  pub values : option_to_list r ≡ cond (runs c || does_stand_by c) (checkpoint_of me c ∷ []) []

-- **Restore** "brings a stopped controller to standing by, with the card's outcome if the card is of this order, else none.
-- The gate's position stays what it is; the card's is not used."
unfoldable pub restore : Identity → Checkpoint → Controller → Answer
restore me saved c = cond (is_stopped c.condition) (becomes (cleared (Standby (cond (eqb saved.order me.order) saved.outcome None)) c)) (passing_over c)

-- **New order**: "running and standing-by controllers begin at stage 0, running, without outcome. Stopped ones remain stopped."
unfoldable pub renew : Controller → Controller
renew c = cond (is_stopped c.condition) (cleared Stopped c) (cleared (in_phase 0 None) c)
