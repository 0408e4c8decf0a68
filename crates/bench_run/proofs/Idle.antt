-- On every bench that a list of events leads to, a station that is no controller's of the lock has just begun; a new order leaves it so.
use Prim.Native.Nat.{ℕ, zero, suc, ◌-◌, ◌≤◌}
use mathlib.Core.Path.{◌≡◌, refl, sym, ap, subst, ◌∙◌}
use mathlib.Core.Bool.{Bool, true, false, not, ◌&&◌}
use mathlib.Core.List.{List, [], ◌∷◌, map}
use native.Mathlib.Omega.{arith}
use lib.Dec.{eqb}
use lib.ListN.{get_or, replicate, get_or-map}
use lib.Seq.{get_or-set_other}
use Rattle.ground.specs.Limit.{limit}
use Rattle.ground.specs.Firsts.{map_first, first-enough}
use Rattle.ground.specs.Tests.{by_cond, and_l, and_r}
use Rattle.ground.specs.Lists.{put}
use Rattle.votes.specs.VoteSets.{empty}
use Rattle.model.specs.RangeLaws.{member}
use Rattle.model.specs.QuestionLaws.{is-accepted, AllYes, all_yes}
use Rattle.model.specs.Ranges.{is_controller}
use Rattle.model.specs.declared.Event.{Event}
use Rattle.model.specs.declared.Event.TheVariants.{Lock, Order, Cast, Deliver, Timeout, Decide, Stop, Save, Restore, OfBallots}
use Rattle.protocol.specs.declared.Station.{Station}
use Rattle.protocol.specs.declared.Effect.{Effect}
use Rattle.protocol.specs.declared.Bench.{Bench}
use Rattle.protocol.specs.Controllers.{cleared}
use Rattle.protocol.specs.Calls.{renew}
use Rattle.protocol.specs.Benches.{fresh, fresh_station, bench_of, new_bench, station, sent_by}
use Rattle.protocol.specs.Events.{subject, source}
use Rattle.protocol.specs.Questions.{is_accepted, questions, reply}
use Rattle.protocol.specs.Steps.{renewed, order_opened, proposed_to, decided_as, answering, effect_of, effect, perform_one, perform, step, run}

-- a station that has just begun
abbrev begun : Station
begun = fresh_station (replicate limit empty)

renewed-begun : renewed begun ≡ begun
unfolding renewed fresh_station fresh renew cleared
renewed-begun = refl

-- so are all beyond the lock's number of controllers
abbrev Idle : Bench → Type 0
Idle b = (i : ℕ) → b.shared.n ≤ i → get_or b.stations i begun ≡ begun

copies : {A : Type 0} (a : A) (m i : ℕ) → get_or (replicate m a) i a ≡ a
copies a zero i = refl
copies a (suc m) zero = refl
copies a (suc m) (suc i) = copies a m i

new-idle : (locked : Bool) (n f : ℕ) (own : Bool) → Idle (bench_of locked n f own)
unfolding bench_of
new-idle locked n f own i h = copies begun limit i

-- an event of one controller puts back that one's station
abbrev effect_at : Bench → Event → Effect
effect_at b e = effect b.shared e (sent_by b (source e)) (station b (subject e))

one-idle : (b : Bench) (e : Event) → is_controller b.shared.n (subject e) ≡ true → (effect_at b e).shared.n ≡ b.shared.n → Idle b → Idle (perform_one b e)
unfolding put
one-idle b e y q h k p =
    let s = member b.shared.n (subject e) y in
    let at : b.shared.n ≤ k = subst (λ (n : ℕ). n ≤ k) q p in
    get_or-set_other b.stations (subject e - 1) k (effect_at b e).station begun (λ x. omega (arith, s.low, s.high, at, x)) ∙ h k at

perform-idle : (b : Bench) (e : Event) → AllYes (questions b e) → Idle b → Idle (perform b e)
unfolding perform order_opened effect_of answering proposed_to decided_as
perform-idle b (Lock n f own) y h = new-idle true n f own
perform-idle b (Order o) y h = λ i k.
    ap (get_or (map renewed b.stations) i) (sym renewed-begun) ∙ get_or-map renewed b.stations i begun ∙ ap renewed (h i k) ∙ renewed-begun
perform-idle b (Cast i w t) y h = one-idle b (Cast i w t) y.1.0 refl h
perform-idle b (Deliver i j k) y h =
    one-idle b (Deliver i j k) (and_r (is_controller b.shared.n i) (is_controller b.shared.n j) (and_l (is_controller b.shared.n i && is_controller b.shared.n j) (not (eqb i j)) y.1.0)) refl h
perform-idle b (Timeout i) y h = one-idle b (Timeout i) y.1.0 refl h
perform-idle b (Decide i w) y h = one-idle b (Decide i w) y.1.0 refl h
perform-idle b (Stop i) y h = one-idle b (Stop i) y.1.0 refl h
perform-idle b (Save i) y h = one-idle b (Save i) y.1.0 refl h
perform-idle b (Restore i) y h = one-idle b (Restore i) y.1.0 refl h
perform-idle b (OfBallots e) y h = h

step-idle : (b : Bench) (e : Event) → Idle b → Idle (step b e)
unfolding step reply
step-idle b e h = by_cond Idle (is_accepted (reply b e)) (perform b e) b (λ q. perform-idle b e (all_yes (questions b e) (is-accepted (reply b e) q)) h) (λ q. h)

run-idle : (es : List Event) (b : Bench) → Idle b → Idle (run b es)
unfolding run
run-idle [] b h = h
run-idle (e ∷ es) b h = run-idle es (step b e) (step-idle b e h)

-- so to renew the stations of the lock's controllers is to renew all
pub enough : (b : Bench) (es : List Event) → b ≡ run new_bench es → map_first renewed b.shared.n b.stations ≡ map renewed b.stations
enough b es here = first-enough renewed begun renewed-begun b.shared.n b.stations (subst Idle (sym here) (run-idle es new_bench (new-idle false 0 0 false)))
