-- WHAT HOLDS OF A CONTROLLER ALONE (`ControllerAlone` of `protocol`) holds of the controller in the words that C lends, after any list of calls of the exported
-- functions, accepted or refused, wherever its gate stands. `cabinet_alone` in src/lib.rt has it as its contract.
use Rattle.std.specs.Prelude.{ℕ, ◌<◌, ◌≤◌, ◌≡◌, true, false, List, ◌∷◌, length}
use Rattle.ground.specs.Quantify.{count_to}
use Rattle.votes.specs.VoteSets.{knows, wills, single, union}
use Rattle.std.specs.Prelude.{Ok}
use Rattle.model.specs.declared.Message.{Message}
use Rattle.records.specs.Codes.{flag_of}
use Rattle.protocol.specs.declared.Controller.{Controller}
use Rattle.protocol.specs.Controllers.{phase, has_ack, has_helped}
use Rattle.protocol.specs.Rules.{is_taken, ack_join, help_votes}
use Rattle.protocol.specs.Calls.{receive}
use Rattle.protocol.specs.NoContradiction.{Agreeing, acks_union, JoinIsUnion}
use Rattle.cabinet_state.specs.States.{state_refusal}
use Rattle.cabinet_turns.specs.Telegrams.{telegrams_sent}
use Rattle.cabinet.specs.Acts.{Act, Voting, answer_to}
use Rattle.cabinet_alone.specs.Runs.{Run, lent, cabinet, inside, further, made, aside, none_ends}

-- a controller but for its gate: a controller alone begins with its gate at 0
abbrev pub bare : Controller → Controller
bare c = record { condition = c.condition; votes = c.votes; acks = c.acks; helped = c.helped; help = c.help; proposal = c.proposal; gate = record { target = 0; position = 0 } }

pub record CabinetAlone : Type 0 where
  -- the words after any list of calls are those of a cabinet: the next call takes them, and reads in them the cabinet that the accepted calls have made
  pub taken-again : (r : Run) → state_refusal (lent r) ≡ 0
  pub read_back : (r : Run) → cabinet r ≡ made r
  -- but for its gate the controller in it is a controller alone, after the calls that the accepted ones come to
  pub as-alone : (r : Run) → bare (inside r) ≡ bare (aside r)
  -- so what holds of a controller alone holds of it. It never holds two vote sets that contradict each other,
  pub held : (r : Run) → Agreeing (inside r)
  -- and each join that its rules make is there, and is the union of the vote sets: the acknowledgements'; the help vote set, and its join with the help answers;
  pub acks-joined : (r : Run) → ack_join r.n (inside r) ≡ Ok (acks_union r.n (inside r))
  pub help-votes : (r : Run) → help_votes r.n (inside r) ≡ union (acks_union r.n (inside r)) (inside r).votes
  pub own-answer : (r : Run) → JoinIsUnion (inside r).helped.votes (help_votes r.n (inside r))
  -- the own vote, where it is answered 0, with the own vote set; a vote set that is taken with the own vote set, and with the help answers
  pub own-vote : (r : Run) (w t : ℕ) → answer_to (Voting w t) (lent r) ≡ 0 → JoinIsUnion (inside r).votes (single r.id (flag_of w))
  pub taken : (r : Run) (m : Message) → is_taken (receive (cabinet r).me m (inside r)).reception ≡ true
      → JoinIsUnion (inside r).votes m.votes × JoinIsUnion (inside r).helped.votes m.votes
  -- its own vote stands on its vote set with its word until a stop, a new order or a waking, whatever is called meanwhile
  pub own-word : (r : Run) (w t : ℕ) (later : List Act) → answer_to (Voting w t) (lent r) ≡ 0 → none_ends later ≡ true
      → (knows (inside (further r (Voting w t ∷ later))).votes r.id ≡ true) × (wills (inside (further r (Voting w t ∷ later))).votes r.id ≡ flag_of w)
  -- before its vote its own vote set does not know it
  pub unvoted : (r : Run) → phase (inside r) ≡ 0 → knows (inside r).votes r.id ≡ false
  -- the two counts are the numbers of senders held, all of 1 to n
  pub ack-count : (r : Run) → (inside r).acks.cnt.0 ≡ count_to r.n (has_ack (inside r))
  pub answer-count : (r : Run) → (inside r).helped.cnt_help.0 ≡ count_to r.n (has_helped (inside r))
  pub ack_senders : (r : Run) (j : ℕ) → has_ack (inside r) j ≡ true → (1 ≤ j) × (j ≤ r.n)
  pub answer_senders : (r : Run) (j : ℕ) → has_helped (inside r) j ≡ true → (1 ≤ j) × (j ≤ r.n)
  -- it has sent fewer telegrams in its order than a byte counts: `cabinet_telegram` reaches each of them, to be sent again
  pub reached : (r : Run) → length (telegrams_sent (cabinet r)) < 256
