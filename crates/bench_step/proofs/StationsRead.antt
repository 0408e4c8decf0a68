-- What the code reads of a station is what the definitions read: all of it within the limit, and past that what the questions look at.
use Rattle.std.specs.Prelude.{is_some}
use Prim.Native.Nat.{ℕ, ◌≤◌}
use mathlib.Core.Path.{◌≡◌, refl}
use mathlib.Core.Bool.{Bool}
use mathlib.Core.List.{[]}
use lib.ListN.{length, replicate}
use Rattle.ground.specs.Limit.{limit}
use Rattle.ground.specs.Lists.{nth}
use Rattle.votes.specs.VoteSets.{empty}
use Rattle.model.specs.declared.Event.{Event}
use Rattle.protocol.specs.declared.Station.{Station}
use Rattle.protocol.specs.declared.Sent.{Sent}
use Rattle.protocol.specs.declared.Bench.{Bench}
use Rattle.protocol.specs.Benches.{fresh_station, fresh, station, sent_by}
use Rattle.protocol.specs.Events.{subject, source, receivers_in}
use Rattle.protocol.specs.Questions.{facts_of}
use Rattle.bench_step.proofs.Defaults.{nth_alike, nth-within}

abbrev pub station_read : Bench → ℕ → Station
station_read b i = nth (fresh_station (replicate limit empty)) b.stations i

-- and of what an event's source has sent
abbrev pub sent_read : Bench → Event → Sent
sent_read b e = (station_read b (source e)).sent

pub read-condition : (b : Bench) (i : ℕ) → (station_read b i).controller.condition ≡ (station b i).controller.condition
unfolding station fresh_station fresh
read-condition b i = nth_alike (λ (s : Station). s.controller.condition) (fresh_station (replicate limit empty)) (fresh_station []) refl b.stations i

pub read-proposal : (b : Bench) (i : ℕ) → (station_read b i).controller.proposal ≡ (station b i).controller.proposal
unfolding station fresh_station fresh
read-proposal b i = nth_alike (λ (s : Station). s.controller.proposal) (fresh_station (replicate limit empty)) (fresh_station []) refl b.stations i

read-saved : (b : Bench) (i : ℕ) → (station_read b i).saved ≡ (station b i).saved
unfolding station fresh_station
read-saved b i = nth_alike (λ (s : Station). s.saved) (fresh_station (replicate limit empty)) (fresh_station []) refl b.stations i

pub read-sent : (b : Bench) (i : ℕ) → (station_read b i).sent ≡ sent_by b i
unfolding station fresh_station
read-sent b i = nth_alike (λ (s : Station). s.sent) (fresh_station (replicate limit empty)) (fresh_station []) refl b.stations i

pub read-station : (b : Bench) (i : ℕ) → length b.stations ≡ limit → 1 ≤ i → i ≤ limit → station_read b i ≡ station b i
unfolding station
read-station b i l h k = nth-within (fresh_station (replicate limit empty)) (fresh_station []) b.stations i h (rw l k)

pub read-facts : (b : Bench) (e : Event) (may : Bool) (give : Bool → Bool) (agrees : Bool)
    → facts_of b.shared b.ballots e (station_read b (subject e)) (sent_read b e) may give agrees ≡ facts_of b.shared b.ballots e (station b (subject e)) (sent_by b (source e)) may give agrees
read-facts b e may give agrees = λ p. record {
  shared = b.shared;
  condition = read-condition b (subject e) p;
  has-checkpoint = is_some (read-saved b (subject e) p);
  receivers = receivers_in e (read-sent b (source e) p);
  may_open = may;
  agrees = agrees;
  may_give = give;
  ballots = b.ballots;
  proposal = read-proposal b (subject e) p;
}
