-- A bench that says it has more controllers than the limit (no run leads there): an event of one that it has no station for is accepted or refused
-- as any other, and changes no station.
use Prim.Native.Nat.{◌<◌, ◌≤◌, ◌-◌}
use mathlib.Core.Path.{◌≡◌, refl, sym, ◌∙◌}
use mathlib.Core.Bool.{true, false, false≢true}
use mathlib.Core.Logic.{inl, inr}
use mathlib.Core.List.{List, []}
use native.Mathlib.Omega.{arith}
use lib.Dec.{leb}
use lib.ListN.{length, replicate}
use lib.Seq.{set_out}
use borrow.Author.Tests.{leb-true, leb-false}
use Rattle.ground.specs.Limit.{limit}
use Rattle.ground.specs.Tests.{split, refuted}
use Rattle.ground.specs.Lists.{nth, put, nth_past}
use Rattle.votes.specs.VoteSets.{empty}
use Rattle.votes.specs.declared.VoteSet.{VoteSet}
use Rattle.model.specs.declared.Event.{Event}
use Rattle.model.specs.declared.Event.TheVariants.{Lock, Order, Cast, Deliver, Timeout, Decide, Stop, Save, Restore, OfBallots}
use Rattle.protocol.specs.declared.Identity.{Identity}
use Rattle.protocol.specs.declared.Sent.{Sent}
use Rattle.protocol.specs.declared.Station.{Station}
use Rattle.protocol.specs.declared.Shared.{Shared}
use Rattle.protocol.specs.declared.Bench.{Bench}
use Rattle.protocol.specs.Controllers.{cleared}
use Rattle.protocol.specs.Rules.{passing_over, becomes}
use Rattle.protocol.specs.Calls.{valid_identity, vote, receive, timeout, awaits_decision, decide, stop}
use Rattle.protocol.specs.Benches.{fresh_station, fresh, station, sent_by, identity}
use Rattle.protocol.specs.Steps.{effect_of, effect, answering, put_back, perform_one, perform}
use Rattle.protocol.specs.Events.{subject, source, restore_from, answer_to}
use Rattle.protocol.proofs.alone.Sound.{place_of}
use Rattle.protocol.proofs.strays.Strayed.{small_of}
use Rattle.bench_turns.proofs.OneStation.{changes_station}
use Rattle.bench_step.proofs.StationsRead.{station_read, sent_read, read-sent, read-station}

-- a valid identity has a station
pub placed : (me : Identity) → valid_identity me ≡ true → (1 ≤ me.id) × (me.id ≤ limit)
placed me e = let p = place_of me e in (p.0, omega (arith, p.1, small_of me e))

no_member : (me : Identity) → limit < me.id → valid_identity me ≡ false
no_member me h = refuted (valid_identity me) (λ e. omega (arith, (placed me e).1))

-- then what a controller that has just begun leaves of what is shared does not depend on the list that it holds
alike : (m : Shared) (e : Event) (sent : Sent) (l l' : List VoteSet) → changes_station e ≡ true → limit < subject e
    → (effect m e sent (fresh_station l)).shared ≡ (effect m e sent (fresh_station l')).shared
unfolding effect_of answer_to answering vote receive timeout decide awaits_decision stop restore_from passing_over becomes cleared fresh_station fresh
alike m (Lock n f own) sent l l' o h = absurd (false≢true o)
alike m (Order k) sent l l' o h = absurd (false≢true o)
alike m (Cast i willing target) sent l l' o h = rw (no_member (identity m i) h)
alike m (Deliver i j kind) sent l l' o h = rw (no_member (identity m j) h)
alike m (Timeout i) sent l l' o h = rw (no_member (identity m i) h)
alike m (Decide i move) sent l l' o h = refl
alike m (Stop i) sent l l' o h = refl
alike m (Save i) sent l l' o h = refl
alike m (Restore i) sent l l' o h = refl
alike m (OfBallots x) sent l l' o h = absurd (false≢true o)

performed : (b : Bench) (e : Event) → changes_station e ≡ true → perform b e ≡ perform_one b e
unfolding perform
performed b (Lock n f own) o = absurd (false≢true o)
performed b (Order k) o = absurd (false≢true o)
performed b (Cast i willing target) o = refl
performed b (Deliver i j kind) o = refl
performed b (Timeout i) o = refl
performed b (Decide i move) o = refl
performed b (Stop i) o = refl
performed b (Save i) o = refl
performed b (Restore i) o = refl
performed b (OfBallots x) o = absurd (false≢true o)

-- an accepted event of a number past the limit changes no station, whatever it is put back with; what it leaves of what is shared, the code finds on the
-- station that it reads
outside : (b : Bench) (e : Event) → length b.stations ≡ limit → changes_station e ≡ true → limit < subject e
    → put_back b (subject e) (effect b.shared e (sent_by b (source e)) (station_read b (subject e))) ≡ perform_one b e
unfolding put
outside b e l o h = λ t. record { shared = same t; ballots = b.ballots; stations = (past-out (station_read b (subject e)) ∙ sym (past-out (station b (subject e)))) t }
  where
    past : (d : Station) → nth d b.stations (subject e) ≡ d
    past d = nth_past d b.stations (subject e) (omega arith)

    same : (effect b.shared e (sent_by b (source e)) (station_read b (subject e))).shared ≡ (effect b.shared e (sent_by b (source e)) (station b (subject e))).shared
    same = unfold station in rw (past (fresh_station []), past (fresh_station (replicate limit empty))) (alike b.shared e (sent_by b (source e)) (replicate limit empty) [] o h)

    past-out : (s : Station) → put b.stations (subject e) (effect b.shared e (sent_by b (source e)) s).station ≡ b.stations
    past-out s = set_out b.stations (subject e - 1) (effect b.shared e (sent_by b (source e)) s).station (omega arith)

-- so an event of one controller, played on the station that the code reads and put back, does what it should
pub put-read : (b : Bench) (e : Event) → length b.stations ≡ limit → changes_station e ≡ true → 1 ≤ subject e
    → put_back b (subject e) (effect b.shared e (sent_read b e) (station_read b (subject e))) ≡ perform b e
put-read b e l o k = rw (performed b e o, read-sent b (source e)) (elim (split (leb (subject e) limit)) [
  | inl h ↦ rw (read-station b (subject e) l k (leb-true (subject e) limit h))
  | inr h ↦ outside b e l o (leb-false (subject e) limit h)
])
