-- An event is a lock, an order, or concerns one controller, and what holds of all that concern one controller stands here once: arguments that treat these
-- alike go by `by_sort`. By cases over the events, each computed.
use Prim.Native.Nat.{ℕ}
use mathlib.Core.Path.{◌≡◌, refl}
use mathlib.Core.Bool.{Bool, true, false, false≢true}
use mathlib.Core.Logic.{◌⊎◌, inl, inr}
use lib.ListN.{length}
use Rattle.ground.specs.Lists.{length-put}
use Rattle.model.specs.declared.Kind.{Kind}
use Rattle.model.specs.declared.Event.{Event}
use Rattle.model.specs.declared.Event.TheVariants.{Lock, Order, Cast, Deliver, Timeout, Decide, Stop, Save, Restore, OfBallots}
use Rattle.protocol.specs.declared.Bench.{Bench}
use Rattle.protocol.specs.Events.{concerns_one, subject, source}
use Rattle.protocol.specs.Benches.{station, sent_by}
use Rattle.protocol.specs.Questions.{Facts, is_accepted, first_no, may_open, may_give, agrees_at, facts_of, questions_of, reply}
use Rattle.protocol.specs.Steps.{proposed_to, decided_as, answering, effect_of, perform}
use Rattle.protocol.specs.Claim.{opens_order}
use Rattle.protocol.specs.NoContradiction.{untested_reply}
use Rattle.protocol.proofs.view.View.{ask_l}

pub by_sort : (P : Event → Type 0) → ((n f : ℕ) (own : Bool) → P (Lock n f own)) → ((o : ℕ) → P (Order o)) → ((e : Event) → concerns_one e ≡ true → P e) → (e : Event) → P e
by_sort P lock order one (Lock n f own) = lock n f own
by_sort P lock order one (Order o) = order o
by_sort P lock order one (Cast i w t) = one (Cast i w t) refl
by_sort P lock order one (Deliver i j k) = one (Deliver i j k) refl
by_sort P lock order one (Timeout i) = one (Timeout i) refl
by_sort P lock order one (Decide i w) = one (Decide i w) refl
by_sort P lock order one (Stop i) = one (Stop i) refl
by_sort P lock order one (Save i) = one (Save i) refl
by_sort P lock order one (Restore i) = one (Restore i) refl
by_sort P lock order one (OfBallots e) = one (OfBallots e) refl

-- an accepted event that concerns one controller opens no order, and leaves the lock, the order and the number of stations
pub record One (b : Bench) (e : Event) : Type 0 where
  pub opens : opens_order b e ≡ false
  pub locked : (perform b e).shared.locked ≡ b.shared.locked
  pub same-n : (perform b e).shared.n ≡ b.shared.n
  pub same-f : (perform b e).shared.f ≡ b.shared.f
  pub order : (perform b e).shared.order ≡ b.shared.order
  pub size : length (perform b e).stations ≡ length b.stations

pub one : (b : Bench) (e : Event) → concerns_one e ≡ true → One b e
unfolding perform effect_of answering proposed_to decided_as
one b (Lock n f own) c = absurd (false≢true c)
one b (Order o) c = absurd (false≢true c)
one b (Cast i w t) c = record { opens = refl; locked = refl; same-n = refl; same-f = refl; order = refl; size = length-put b.stations i _ }
one b (Deliver i j k) c = record { opens = refl; locked = refl; same-n = refl; same-f = refl; order = refl; size = length-put b.stations j _ }
one b (Timeout i) c = record { opens = refl; locked = refl; same-n = refl; same-f = refl; order = refl; size = length-put b.stations i _ }
one b (Decide i w) c = record { opens = refl; locked = refl; same-n = refl; same-f = refl; order = refl; size = length-put b.stations i _ }
one b (Stop i) c = record { opens = refl; locked = refl; same-n = refl; same-f = refl; order = refl; size = length-put b.stations i _ }
one b (Save i) c = record { opens = refl; locked = refl; same-n = refl; same-f = refl; order = refl; size = length-put b.stations i _ }
one b (Restore i) c = record { opens = refl; locked = refl; same-n = refl; same-f = refl; order = refl; size = length-put b.stations i _ }
one b (OfBallots e) c = record { opens = refl; locked = refl; same-n = refl; same-f = refl; order = refl; size = refl }

abbrev pub is_stop : Event → Bool
is_stop (Lock n f own) = false
is_stop (Order o) = false
is_stop (Cast i w t) = false
is_stop (Deliver i j k) = false
is_stop (Timeout i) = false
is_stop (Decide i w) = false
is_stop (Stop i) = true
is_stop (Save i) = false
is_stop (Restore i) = false
is_stop (OfBallots e) = false

-- every event but a lock asks for one
pub record IsLock (e : Event) : Type 0 where
  pub n : ℕ
  pub f : ℕ
  pub own : Bool
  pub is : e ≡ Lock n f own

pub asks-lock : (v : Facts) (e : Event) → is_accepted (first_no (questions_of v e)) ≡ true → IsLock e ⊎ (v.shared.locked ≡ true)
unfolding first_no
asks-lock v (Lock n f own) q = inl (record { n = n; f = f; own = own; is = refl })
asks-lock v (Order o) q = inr (ask_l _ _ _ q)
asks-lock v (Cast i w t) q = inr (ask_l _ _ _ q)
asks-lock v (Deliver i j k) q = inr (ask_l _ _ _ q)
asks-lock v (Timeout i) q = inr (ask_l _ _ _ q)
asks-lock v (Decide i w) q = inr (ask_l _ _ _ q)
asks-lock v (Stop i) q = inr (ask_l _ _ _ q)
asks-lock v (Save i) q = inr (ask_l _ _ _ q)
asks-lock v (Restore i) q = inr (ask_l _ _ _ q)
asks-lock v (OfBallots e) q = inr (ask_l _ _ _ q)

pub locks-or_locked : (b : Bench) (e : Event) → is_accepted (reply b e) ≡ true → IsLock e ⊎ (b.shared.locked ≡ true)
unfolding reply
locks-or_locked b e q = asks-lock (facts_of b.shared b.ballots e (station b (subject e)) (sent_by b (source e)) (may_open b.shared) (may_give b.shared b.ballots) (agrees_at b.shared e (sent_by b (source e)) (station b (subject e)))) e q

-- a delivery alone is asked 24: any other event is answered without the test as with it
pub record IsDelivery (e : Event) : Type 0 where
  pub from : ℕ
  pub to : ℕ
  pub kind : Kind
  pub is : e ≡ Deliver from to kind

pub tests-delivery : (b : Bench) (e : Event) → IsDelivery e ⊎ (reply b e ≡ untested_reply b e)
unfolding reply
tests-delivery b (Lock n f own) = inr refl
tests-delivery b (Order o) = inr refl
tests-delivery b (Cast i w t) = inr refl
tests-delivery b (Deliver i j k) = inl (record { from = i; to = j; kind = k; is = refl })
tests-delivery b (Timeout i) = inr refl
tests-delivery b (Decide i w) = inr refl
tests-delivery b (Stop i) = inr refl
tests-delivery b (Save i) = inr refl
tests-delivery b (Restore i) = inr refl
tests-delivery b (OfBallots e) = inr refl
