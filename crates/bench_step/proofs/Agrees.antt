-- Question 24 on the station that the code reads is question 24 of the bench: the two stations differ only past the limit, where no identity is valid
-- and every message is passed over.
use mathlib.Core.Path.{◌≡◌, refl, sym, ◌∙◌}
use mathlib.Core.Bool.{false}
use mathlib.Core.Logic.{inl, inr}
use lib.ListN.{length}
use Rattle.ground.specs.Limit.{limit}
use Rattle.ground.specs.Tests.{split}
use Rattle.model.specs.declared.Event.{Event}
use Rattle.model.specs.declared.Event.TheVariants.{Lock, Order, Cast, Deliver, Timeout, Decide, Stop, Save, Restore, OfBallots}
use Rattle.protocol.specs.declared.Bench.{Bench}
use Rattle.protocol.specs.Rules.{passing_over}
use Rattle.protocol.specs.Calls.{valid_identity, receive}
use Rattle.protocol.specs.Benches.{station, sent_by, identity}
use Rattle.protocol.specs.Events.{subject, source, answer_to}
use Rattle.protocol.specs.Questions.{agrees_at}
use Rattle.protocol.proofs.view.Refusals.{delivers, others_agree}
use Rattle.bench_step.proofs.StationsRead.{station_read, sent_read, read-sent, read-station}
use Rattle.bench_step.proofs.Outside.{placed}

-- no event but a delivery is refused by it
both_agree : (b : Bench) (e : Event) → delivers e ≡ false → agrees_at b.shared e (sent_read b e) (station_read b (subject e)) ≡ agrees_at b.shared e (sent_by b (source e)) (station b (subject e))
both_agree b e d = others_agree b.shared e _ _ d ∙ sym (others_agree b.shared e _ _ d)

pub read-agrees : (b : Bench) (e : Event) → length b.stations ≡ limit
    → agrees_at b.shared e (sent_read b e) (station_read b (subject e)) ≡ agrees_at b.shared e (sent_by b (source e)) (station b (subject e))
read-agrees b (Lock n f own) l = both_agree b (Lock n f own) refl
read-agrees b (Order o) l = both_agree b (Order o) refl
read-agrees b (Cast i willing target) l = both_agree b (Cast i willing target) refl
read-agrees b (Deliver i j kind) l = elim (split (valid_identity (identity b.shared j))) [
  | inl v ↦ let k = placed (identity b.shared j) v in rw (read-station b j l k.0 k.1, read-sent b i)
  | inr v ↦ unfold answer_to receive passing_over in rw v
]
read-agrees b (Timeout i) l = both_agree b (Timeout i) refl
read-agrees b (Decide i move) l = both_agree b (Decide i move) refl
read-agrees b (Stop i) l = both_agree b (Stop i) refl
read-agrees b (Save i) l = both_agree b (Save i) refl
read-agrees b (Restore i) l = both_agree b (Restore i) refl
read-agrees b (OfBallots e) l = both_agree b (OfBallots e) refl
