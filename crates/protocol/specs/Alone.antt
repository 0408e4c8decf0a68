-- A CONTROLLER ALONE, in its cabinet, whatever is called of it and whatever comes over the line. Document 02, U7: "On a real line, unlike on the bench, a stray
-- cabinet could send a sheet that has controller 4 willing when another has it unwilling." Said of every list of calls from a fresh controller on: no two
-- vote sets that it holds ever contradict each other, so that each join of its rules is there, and its own vote stands on its own vote set.
-- `controller_alone` in src/lib.rt has it as its contract.
use Rattle.std.specs.Prelude.{ℕ, ◌≤◌, ◌≡◌, Bool, true, false, not, ◌&&◌, List, [], ◌∷◌, ◌++◌, replicate}
use Rattle.ground.specs.Limit.{limit}
use Rattle.ground.specs.Quantify.{count_to}
use Rattle.votes.specs.VoteSets.{empty, knows, wills, single, union}
use Rattle.std.specs.Prelude.{Ok}
use Rattle.model.specs.declared.Message.{Message}
use Rattle.model.specs.declared.Checkpoint.{Checkpoint}
use Rattle.protocol.specs.declared.Identity.{Identity}
use Rattle.protocol.specs.declared.Controller.{Controller}
use Rattle.protocol.specs.declared.Answer.{Answer}
use Rattle.protocol.specs.Controllers.{phase, has_ack, has_helped}
use Rattle.protocol.specs.Rules.{is_taken, becomes, ack_join, help_votes}
use Rattle.protocol.specs.Calls.{vote, receive, timeout, decide, stop, restore, renew}
use Rattle.protocol.specs.Benches.{fresh}
use Rattle.protocol.specs.NoContradiction.{Agreeing, acks_union, JoinIsUnion}

-- what may be asked of it: its own vote and target, any message whatever, a timeout, a decision, a stop, a restore from any checkpoint, a new order of any number
pub data Call : Type 0 where
  voting : Bool → ℕ → Call
  receiving : Message → Call
  timing-out : Call
  deciding : Bool → Call
  stopping : Call
  restoring : Checkpoint → Call
  renewing : ℕ → Call

-- a cabinet: the number of its order, which is the last one given, and its controller
pub record Cabinet : Type 0 where
  pub order : ℕ
  pub controller : Controller

-- controller `me` in an order
abbrev pub in_order : Identity → ℕ → Identity
in_order me o = record { n = me.n; f = me.f; id = me.id; order = o }

-- what it answers to a call (a new order has no answer of its own), and the cabinet after it, and after a list of calls
abbrev pub answer_in : Identity → Cabinet → Call → Answer
answer_in me x (voting willing target) = vote (in_order me x.order) willing target x.controller
answer_in me x (receiving m) = receive (in_order me x.order) m x.controller
answer_in me x timing-out = timeout (in_order me x.order) x.controller
answer_in me x (deciding move) = decide move x.controller
answer_in me x stopping = stop x.controller
answer_in me x (restoring saved) = restore (in_order me x.order) saved x.controller
answer_in me x (renewing o) = becomes (renew x.controller)

abbrev order_in : Cabinet → Call → ℕ
order_in x (voting willing target) = x.order
order_in x (receiving m) = x.order
order_in x timing-out = x.order
order_in x (deciding move) = x.order
order_in x stopping = x.order
order_in x (restoring saved) = x.order
order_in x (renewing o) = o

unfoldable pub called : Identity → Cabinet → Call → Cabinet
called me x k = record { order = order_in x k; controller = (answer_in me x k).controller }

unfoldable pub called_all : Identity → Cabinet → List Call → Cabinet
called_all me x [] = x
called_all me x (k ∷ ks) = called_all me (called me x k) ks

-- from a fresh controller on, which begins in the order that `me` names
abbrev pub fresh_cabinet : Identity → Cabinet
fresh_cabinet me = record { order = me.order; controller = fresh (replicate limit empty) }

abbrev pub cabinet : Identity → List Call → Cabinet
cabinet me ks = called_all me (fresh_cabinet me) ks

abbrev pub alone : Identity → List Call → Controller
alone me ks = (cabinet me ks).controller

-- what it answers to its vote and to a message, after these calls
abbrev pub vote_after : Identity → List Call → Bool → ℕ → Answer
vote_after me ks willing target = answer_in me (cabinet me ks) (voting willing target)

abbrev pub receive_after : Identity → List Call → Message → Answer
receive_after me ks m = answer_in me (cabinet me ks) (receiving m)

-- the calls that clear a running controller: a stop and a new order. A restore is for a stopped one; one that runs passes it over.
abbrev pub clears : Call → Bool
clears (voting willing target) = false
clears (receiving m) = false
clears timing-out = false
clears (deciding move) = false
clears stopping = true
clears (restoring saved) = false
clears (renewing o) = true

unfoldable pub none_clears : List Call → Bool
none_clears [] = true
none_clears (k ∷ ks) = not (clears k) && none_clears ks

-- for any n, f and number, in range or not: out of range a vote, a message and a timeout are passed over
pub record ControllerAlone : Type 0 where
  -- "A controller that meets a contradiction among its own sheet, acknowledgements and help answers takes the telegram as not received, also one already held
  -- that its own vote contradicts": so it never holds two vote sets that contradict each other
  pub held : (me : Identity) (ks : List Call) → Agreeing (alone me ks)
  -- "All users of the join follow": each join that its rules make is there, and is the union of the vote sets. The acknowledgements':
  pub acks-joined : (me : Identity) (ks : List Call) → ack_join me.n (alone me ks) ≡ Ok (acks_union me.n (alone me ks))
  -- the help vote set, and its join with the help answers, for one that counts it as an answer;
  pub help-votes : (me : Identity) (ks : List Call) → help_votes me.n (alone me ks) ≡ union (acks_union me.n (alone me ks)) (alone me ks).votes
  pub own-answer : (me : Identity) (ks : List Call) → JoinIsUnion (alone me ks).helped.votes (help_votes me.n (alone me ks))
  -- the own vote with the own vote set; a vote set that is taken with the own vote set, and with the help answers
  pub own-vote : (me : Identity) (ks : List Call) (w : Bool) (t : ℕ) → is_taken (vote_after me ks w t).reception ≡ true → JoinIsUnion (alone me ks).votes (single me.id w)
  pub taken : (me : Identity) (ks : List Call) (m : Message) → is_taken (receive_after me ks m).reception ≡ true
      → JoinIsUnion (alone me ks).votes m.votes × JoinIsUnion (alone me ks).helped.votes m.votes
  -- **Vote**: "Its own vote goes on its sheet", and stands there with its word until a stop or a new order, whatever is called meanwhile
  pub own-word : (me : Identity) (ks : List Call) (w : Bool) (t : ℕ) (later : List Call) → is_taken (vote_after me ks w t).reception ≡ true → none_clears later ≡ true
      → (knows (alone me (ks ++ (voting w t ∷ later))).votes me.id ≡ true) × (wills (alone me (ks ++ (voting w t ∷ later))).votes me.id ≡ w)
  -- before its vote, at stage 0, its own vote set does not know it: so it never has another word on itself than its vote
  pub unvoted : (me : Identity) (ks : List Call) → phase (alone me ks) ≡ 0 → knows (alone me ks).votes me.id ≡ false
  -- **Waiting**: "Acknowledgements and help answers are counted apart, one per sender": the two counts are the numbers of senders held, all of 1 to n
  pub ack-count : (me : Identity) (ks : List Call) → (alone me ks).acks.cnt.0 ≡ count_to me.n (has_ack (alone me ks))
  pub answer-count : (me : Identity) (ks : List Call) → (alone me ks).helped.cnt_help.0 ≡ count_to me.n (has_helped (alone me ks))
  pub ack_senders : (me : Identity) (ks : List Call) (j : ℕ) → has_ack (alone me ks) j ≡ true → (1 ≤ j) × (j ≤ me.n)
  pub answer_senders : (me : Identity) (ks : List Call) (j : ℕ) → has_helped (alone me ks) j ≡ true → (1 ≤ j) × (j ≤ me.n)
