-- NO CONTRADICTION ON THE BENCH. Document 02, U7: "Show too that no event of any list from a new bench meets it, so outcomes and the listing there are
-- untouched." Said of every list of events, beside a bench that asks no 24, drops no acknowledgement and refuses no vote set.
-- `no_contradiction` in src/lib.rt has it as its contract.
use Rattle.std.specs.Prelude.{ℕ, ◌≡◌, Bool, true, false, cond, List, [], ◌∷◌}
use Rattle.votes.specs.VoteSets.{single, union, union_all}
use Rattle.votes.specs.Joining.{contradicts, join}
use Rattle.votes.specs.declared.VoteSet.{VoteSet}
use Rattle.std.specs.Prelude.{Ok}
use Rattle.model.specs.declared.Kind.{Kind}
use Rattle.model.specs.declared.Event.{Event}
use Rattle.model.specs.declared.Event.TheVariants.{Lock, Order, Cast, Deliver, Timeout, Decide, Stop, Save, Restore, OfBallots}
use Rattle.protocol.specs.declared.Controller.{Controller}
use Rattle.protocol.specs.declared.Bench.{Bench}
use Rattle.protocol.specs.Controllers.{has_ack, ack_of}
use Rattle.protocol.specs.Rules.{vote_rule, ack_join, help_votes}
use Rattle.protocol.specs.Calls.{arrives}
use Rattle.protocol.specs.Benches.{new_bench, station, controller, sent_by, of_kind}
use Rattle.protocol.specs.Events.{subject, source}
use Rattle.protocol.specs.Questions.{Reply, accepted, refused, is_accepted, first_no, may_open, may_give, questions_of, facts_of, reply}
use Rattle.protocol.specs.Steps.{answering, put_back, perform}
use Rattle.protocol.specs.Claim.{after}

-- no two vote sets that a controller holds contradict each other
pub record Agreeing (c : Controller) : Type 0 where
  pub own-answers : contradicts c.votes c.helped.votes ≡ false
  pub own-ack : (j : ℕ) → has_ack c j ≡ true → contradicts c.votes (ack_of c j) ≡ false
  pub answers-ack : (j : ℕ) → has_ack c j ≡ true → contradicts c.helped.votes (ack_of c j) ≡ false
  pub acks : (j k : ℕ) → has_ack c j ≡ true → has_ack c k ≡ true → contradicts (ack_of c j) (ack_of c k) ≡ false

-- A bench without the test: every question but 24; document 01's rules for a vote and for what arrives. Its joins are the rules', which by the fields of
-- `NoContradiction` are the unions, as before U7.
abbrev pub untested_reply : Bench → Event → Reply
untested_reply b e = first_no (questions_of (facts_of b.shared b.ballots e (station b (subject e)) (sent_by b (source e)) (may_open b.shared) (may_give b.shared b.ballots) true) e)

abbrev pub untested_perform : Bench → Event → Bench
untested_perform b (Lock n f own) = perform b (Lock n f own)
untested_perform b (Order o) = perform b (Order o)
untested_perform b (Cast i willing target) = put_back b i (answering b.shared (station b i) (vote_rule b.shared.n b.shared.f i willing target (controller b i)))
untested_perform b (Deliver i j kind) = put_back b j (answering b.shared (station b j) (arrives kind b.shared.n b.shared.f i (of_kind kind (sent_by b i)).votes (controller b j)))
untested_perform b (Timeout i) = perform b (Timeout i)
untested_perform b (Decide i move) = perform b (Decide i move)
untested_perform b (Stop i) = perform b (Stop i)
untested_perform b (Save i) = perform b (Save i)
untested_perform b (Restore i) = perform b (Restore i)
untested_perform b (OfBallots e) = perform b (OfBallots e)

unfoldable pub untested_step : Bench → Event → Bench
untested_step b e = cond (is_accepted (untested_reply b e)) (untested_perform b e) b

unfoldable pub untested_run : Bench → List Event → Bench
untested_run b [] = b
untested_run b (e ∷ es) = untested_run (untested_step b e) es

-- the union of the acknowledgements that a controller holds; the vote set that one of a bench has sent of a kind
abbrev pub acks_union : ℕ → Controller → VoteSet
acks_union n c = union_all n c.acks.from c.acks.sets

abbrev pub votes_sent : Bench → Kind → ℕ → VoteSet
votes_sent b kind i = (of_kind kind (sent_by b i)).votes

-- the join of two vote sets is there, and is what either knows
abbrev pub JoinIsUnion : VoteSet → VoteSet → Type 0
JoinIsUnion s t = join s t ≡ Ok (union s t)

pub record NoContradiction : Type 0 where
  -- no controller ever holds two vote sets that contradict each other
  pub held : (es : List Event) (i : ℕ) → Agreeing (controller (after es) i)
  -- so every join that a rule makes is there, and is the union of the vote sets: the join of the acknowledgements held
  pub acks-joined : (es : List Event) (i : ℕ) → ack_join (after es).shared.n (controller (after es) i) ≡ Ok (acks_union (after es).shared.n (controller (after es) i))
  -- the help vote set, of the own vote set and these, and its join with the help answers, for one that counts it as an answer
  pub help-votes : (es : List Event) (i : ℕ)
      → help_votes (after es).shared.n (controller (after es) i) ≡ union (acks_union (after es).shared.n (controller (after es) i)) (controller (after es) i).votes
  pub own-answer : (es : List Event) (i : ℕ) → JoinIsUnion (controller (after es) i).helped.votes (help_votes (after es).shared.n (controller (after es) i))
  -- the own vote with the own vote set; a delivered vote set with the own vote set, and with the help answers
  pub own-vote : (es : List Event) (i : ℕ) (w : Bool) (t : ℕ) → reply (after es) (Cast i w t) ≡ accepted → JoinIsUnion (controller (after es) i).votes (single i w)
  pub delivered : (es : List Event) (i j : ℕ) (kind : Kind) → reply (after es) (Deliver i j kind) ≡ accepted
      → JoinIsUnion (controller (after es) j).votes (votes_sent (after es) kind i) × JoinIsUnion (controller (after es) j).helped.votes (votes_sent (after es) kind i)
  -- "no event of any list from a new bench meets it": whatever event comes next, it is not answered 24
  pub never_24 : (es : List Event) (e : Event) → reply (after es) e ≡ refused 24 → ⊥
  -- every event is answered as without the test, and leaves the bench that it left without it: so does every list
  pub answers : (es : List Event) (e : Event) → reply (after es) e ≡ untested_reply (after es) e
  pub benches : (es : List Event) → after es ≡ untested_run new_bench es
