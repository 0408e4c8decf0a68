-- The number that is returned tells whether an event was accepted, since no question has the number 0.
use mathlib.Core.Path.{◌≡◌, refl}
use mathlib.Core.Bool.{true, false}
use Rattle.model.specs.QuestionLaws.{AllYes, all_yes, numbered, reply-accepted}
use Rattle.model.specs.declared.Event.{Event}
use Rattle.model.specs.declared.Event.TheVariants.{Lock, Order, Cast, Deliver, Timeout, Decide, Stop, Save, Restore, OfBallots}
use Rattle.model.specs.declared.BallotEvent.TheVariants.{Open, Carry}
use Rattle.protocol.specs.declared.Bench.{Bench}
use Rattle.protocol.specs.Events.{subject, source}
use Rattle.protocol.specs.Benches.{station, sent_by}
use Rattle.protocol.specs.Questions.{may_open, may_give, agrees_at, facts_of, Facts, Reply, accepted, refused, number, is_accepted, questions_of, questions, reply}
use Rattle.protocol.specs.Steps.{perform, step}

pub all-numbered : (v : Facts) (e : Event) → numbered (questions_of v e) ≡ true
all-numbered v (Lock n f own) = refl
all-numbered v (Order o) = refl
all-numbered v (Cast i willing target) = refl
all-numbered v (Deliver i j kind) = refl
all-numbered v (Timeout i) = refl
all-numbered v (Decide i move) = refl
all-numbered v (Stop i) = refl
all-numbered v (Save i) = refl
all-numbered v (Restore i) = refl
all-numbered v (OfBallots (Open i b)) = refl
all-numbered v (OfBallots (Carry i j kind b)) = refl

all-numbered-at : (b : Bench) (e : Event) → numbered (questions b e) ≡ true
all-numbered-at b e = all-numbered (facts_of b.shared b.ballots e (station b (subject e)) (sent_by b (source e)) (may_open b.shared) (may_give b.shared b.ballots) (agrees_at b.shared e (sent_by b (source e)) (station b (subject e)))) e

pub zero-accepted : (b : Bench) (e : Event) → number (reply b e) ≡ 0 → reply b e ≡ accepted
unfolding reply
zero-accepted b e z = reply-accepted (questions b e) (number (reply b e)) (all-numbered-at b e) refl z

-- then each question was answered "yes"
pub zero-yes : (b : Bench) (e : Event) → number (reply b e) ≡ 0 → AllYes (questions b e)
unfolding reply
zero-yes b e z = all_yes (questions b e) (zero-accepted b e z)

pub step-accepted : (b : Bench) (e : Event) → number (reply b e) ≡ 0 → step b e ≡ perform b e
unfolding step
step-accepted b e z = rw (zero-accepted b e z)

not-accepted : (r : Reply) → (number r ≡ 0 → ⊥) → is_accepted r ≡ false
not-accepted accepted n = absurd (n refl)
not-accepted (refused q) n = refl

pub step-refused : (b : Bench) (e : Event) → (number (reply b e) ≡ 0 → ⊥) → step b e ≡ b
unfolding step
step-refused b e n = rw (not-accepted (reply b e) n)
