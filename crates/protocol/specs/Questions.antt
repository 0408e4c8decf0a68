-- Document 01, "Questions put to a record or event": those that the bench puts to an event, in their sequence.
use Rattle.std.specs.Prelude.{ℕ, Bool, true, false, cond, not, ◌&&◌, ◌||◌, List, [], ◌∷◌, eqb, leb, ltb, is_some}
use Rattle.ground.specs.Mask.{has}
use Rattle.model.specs.Ranges.{sizes_in_range, is_controller, different_controllers, position_in_range}
use Rattle.model.specs.Routes.{route}
pub use Rattle.model.specs.Questions.{Reply, accepted, refused, number, is_accepted, Question, ask}
unfoldable pub use Rattle.model.specs.Questions.{unless, first_no}
use Rattle.model.specs.declared.Outcome.{Outcome}
use Rattle.model.specs.declared.Outcome.TheVariants.{None, Stay, Move}
use Rattle.model.specs.declared.Event.{Event}
use Rattle.model.specs.declared.Event.TheVariants.{Lock, Order, Cast, Deliver, Timeout, Decide, Stop, Save, Restore, OfBallots}
use Rattle.protocol.specs.declared.Condition.{Condition}
use Rattle.protocol.specs.declared.Sent.{Sent}
use Rattle.protocol.specs.declared.Station.{Station}
use Rattle.protocol.specs.declared.Consensus.{Consensus}
use Rattle.protocol.specs.declared.Shared.{Shared}
use Rattle.protocol.specs.declared.Bench.{Bench}
use Rattle.protocol.specs.Controllers.{is_running, is_standby, is_stopped, phase_in}
use Rattle.protocol.specs.declared.Ballots.{Ballots}
use Rattle.protocol.specs.Ballots.{is_chosen}
use Rattle.protocol.specs.BallotSteps.{ballot_controllers, ballot_questions}
use Rattle.protocol.specs.Rules.{is_contradicted}
use Rattle.protocol.specs.Counts.{open_gates_of}
use Rattle.protocol.specs.Benches.{station, sent_by}
use Rattle.protocol.specs.Events.{subject, source, receivers_in, answer_to}

-- 13: "Has every running controller an outcome, or has no order been opened yet?" It goes by the number of gates still open that the bench keeps;
-- OpenCount.antt says that this asks the same of every controller.
abbrev pub may_open : Shared → Bool
may_open m = eqb m.order 0 || eqb (open_gates_of m) 0

-- 18: "Was the word put in this order, and no other given?"
abbrev pub was_proposed : Consensus → Bool → Bool
was_proposed k true = k.move_proposed
was_proposed k false = k.stay_proposed

abbrev pub no_other_word : Outcome → Bool → Bool
no_other_word None move = true
no_other_word Stay move = not move
no_other_word Move move = move

-- at c = 1 it asks instead whether more than n/2 have taken the word in one ballot
abbrev pub may_give : Shared → Ballots → Bool → Bool
may_give m bs move = cond m.own (is_chosen m.n bs move) (was_proposed m.consensus move && no_other_word m.consensus.decision move)

-- 24: "Refused by the controller: 24, a delivered sheet that contradicts one held; last of all questions." (document 02, U7)
abbrev pub agrees_at : Shared → Event → Sent → Station → Bool
agrees_at m e sent s = not (is_contradicted (answer_to m e sent s).reception)

-- what the questions of an event look at beside the event: what is shared; the condition of the controller that it concerns, and whether that has a
-- checkpoint; to whom the delivered message was sent; whether an order may be opened; whether the delivered vote set agrees with those held
pub record Facts : Type 0 where
  pub shared : Shared
  pub condition : Condition
  pub has-checkpoint : Bool
  pub receivers : ℕ
  pub may_open : Bool
  pub agrees : Bool
  pub may_give : Bool → Bool
  pub ballots : Ballots
  pub proposal : Outcome

-- each event's questions, from what they look at
abbrev pub questions_of : Facts → Event → List Question
questions_of v (Lock n f own) = ask 4 (sizes_in_range n f) ∷ ask 6 (not v.shared.locked) ∷ []
questions_of v (Order o) = ask 5 v.shared.locked ∷ ask 8 (leb 1 o) ∷ ask 12 (ltb v.shared.order o) ∷ ask 13 v.may_open ∷ []
questions_of v (Cast i willing target) = ask 5 v.shared.locked ∷ ask 7 (is_controller v.shared.n i) ∷ ask 11 (position_in_range target) ∷ ask 14 (leb 1 v.shared.order)
    ∷ ask 15 (is_running v.condition) ∷ ask 16 (eqb (phase_in v.condition) 0) ∷ []
questions_of v (Deliver i j kind) = ask 5 v.shared.locked ∷ ask 7 (different_controllers v.shared.n i j) ∷ ask 10 (route v.shared.f kind i j)
    ∷ ask 14 (leb 1 v.shared.order) ∷ ask 15 (is_running v.condition) ∷ ask 17 (has v.receivers j) ∷ ask 24 v.agrees ∷ []
questions_of v (Timeout i) = ask 5 v.shared.locked ∷ ask 7 (is_controller v.shared.n i) ∷ ask 14 (leb 1 v.shared.order)
    ∷ ask 15 (is_running v.condition) ∷ ask 16 (eqb (phase_in v.condition) 1 || eqb (phase_in v.condition) 2) ∷ []
questions_of v (Decide i move) = ask 5 v.shared.locked ∷ ask 7 (is_controller v.shared.n i) ∷ ask 14 (leb 1 v.shared.order)
    ∷ ask 15 (is_running v.condition || is_standby v.condition) ∷ ask 16 (is_standby v.condition || eqb (phase_in v.condition) 3)
    ∷ ask 18 (v.may_give move) ∷ []
questions_of v (Stop i) = ask 5 v.shared.locked ∷ ask 7 (is_controller v.shared.n i) ∷ ask 14 (leb 1 v.shared.order)
    ∷ ask 15 (is_running v.condition || is_standby v.condition) ∷ []
questions_of v (Save i) = ask 5 v.shared.locked ∷ ask 7 (is_controller v.shared.n i) ∷ ask 14 (leb 1 v.shared.order)
    ∷ ask 15 (is_running v.condition || is_standby v.condition) ∷ []
questions_of v (Restore i) = ask 5 v.shared.locked ∷ ask 7 (is_controller v.shared.n i) ∷ ask 14 (leb 1 v.shared.order) ∷ ask 15 (is_stopped v.condition)
    ∷ ask 19 v.has-checkpoint ∷ []
questions_of v (OfBallots e) = ask 5 v.shared.locked ∷ ask 7 (ballot_controllers v.shared.n e) ∷ ask 14 (leb 1 v.shared.order) ∷ ask 15 (is_running v.condition)
    ∷ ballot_questions v.shared.n v.shared.own v.ballots v.proposal e

-- what they look at: of an event that concerns the controller of station s, and whose source has sent `sent`; and that, of a bench
abbrev pub facts_of : Shared → Ballots → Event → Station → Sent → Bool → (Bool → Bool) → Bool → Facts
facts_of m bs e s sent may give agrees = record { shared = m; may_give = give; ballots = bs; proposal = s.controller.proposal; condition = s.controller.condition; has-checkpoint = is_some s.saved; receivers = receivers_in e sent; may_open = may; agrees = agrees }

abbrev pub questions : Bench → Event → List Question
questions b e = questions_of (facts_of b.shared b.ballots e (station b (subject e)) (sent_by b (source e)) (may_open b.shared) (may_give b.shared b.ballots) (agrees_at b.shared e (sent_by b (source e)) (station b (subject e)))) e

-- the bench's answer to an event
unfoldable pub reply : Bench → Event → Reply
reply b e = first_no (questions b e)
