-- Whom an event concerns, and what that controller answers to it.
use Rattle.std.specs.Prelude.{ℕ, Bool, true, false, Option, Some, None}
use Rattle.model.specs.declared.Event.{Event}
use Rattle.model.specs.declared.Event.TheVariants.{Lock, Order, Cast, Deliver, Timeout, Decide, Stop, Save, Restore, OfBallots}
use Rattle.protocol.specs.declared.Identity.{Identity}
use Rattle.protocol.specs.declared.Controller.{Controller}
use Rattle.protocol.specs.declared.Answer.{Answer}
use Rattle.protocol.specs.declared.Sent.{Sent}
use Rattle.protocol.specs.declared.Station.{Station}
use Rattle.protocol.specs.declared.Shared.{Shared}
use Rattle.protocol.specs.BallotSteps.{ballot_subject}
use Rattle.protocol.specs.Rules.{passing_over}
use Rattle.protocol.specs.Calls.{vote, receive, timeout, decide, stop, restore}
use Rattle.protocol.specs.Benches.{identity, message, of_kind}
use Rattle.model.specs.declared.Checkpoint.{Checkpoint}

-- is it the event of one controller: kinds 2 to 8
abbrev pub concerns_one : Event → Bool
concerns_one (Lock n f own) = false
concerns_one (Order o) = false
concerns_one (Cast i willing target) = true
concerns_one (Deliver i j kind) = true
concerns_one (Timeout i) = true
concerns_one (Decide i move) = true
concerns_one (Stop i) = true
concerns_one (Save i) = true
concerns_one (Restore i) = true
concerns_one (OfBallots e) = true

-- the controller that it may change; 0 where it is the whole bench
abbrev pub subject : Event → ℕ
subject (Lock n f own) = 0
subject (Order o) = 0
subject (Cast i willing target) = i
subject (Deliver i j kind) = j
subject (Timeout i) = i
subject (Decide i move) = i
subject (Stop i) = i
subject (Save i) = i
subject (Restore i) = i
subject (OfBallots e) = ballot_subject e

-- the controller whose message a delivery hands over; of any other event its subject
abbrev pub source : Event → ℕ
source (Lock n f own) = 0
source (Order o) = 0
source (Cast i willing target) = i
source (Deliver i j kind) = i
source (Timeout i) = i
source (Decide i move) = i
source (Stop i) = i
source (Save i) = i
source (Restore i) = i
source (OfBallots e) = ballot_subject e

-- to whom the source has sent messages of the kind that is delivered
abbrev pub receivers_in : Event → Sent → ℕ
receivers_in (Lock n f own) s = 0
receivers_in (Order o) s = 0
receivers_in (Cast i willing target) s = 0
receivers_in (Deliver i j kind) s = (of_kind kind s).to
receivers_in (Timeout i) s = 0
receivers_in (Decide i move) s = 0
receivers_in (Stop i) s = 0
receivers_in (Save i) s = 0
receivers_in (Restore i) s = 0
receivers_in (OfBallots e) s = 0

unfoldable pub restore_from : Identity → Option Checkpoint → Controller → Answer
restore_from me None c = passing_over c
restore_from me (Some saved) c = restore me saved c

-- the answer of the controller that an event concerns: s is its station, and the event's source has sent `sent`. A save asks for none.
unfoldable pub answer_to : Shared → Event → Sent → Station → Answer
answer_to m (Lock n f own) sent s = passing_over s.controller
answer_to m (Order o) sent s = passing_over s.controller
answer_to m (Cast i willing target) sent s = vote (identity m i) willing target s.controller
answer_to m (Deliver i j kind) sent s = receive (identity m j) (message m kind i j sent) s.controller
answer_to m (Timeout i) sent s = timeout (identity m i) s.controller
answer_to m (Decide i move) sent s = decide move s.controller
answer_to m (Stop i) sent s = stop s.controller
answer_to m (Save i) sent s = passing_over s.controller
answer_to m (Restore i) sent s = restore_from (identity m i) s.saved s.controller
answer_to m (OfBallots e) sent s = passing_over s.controller
