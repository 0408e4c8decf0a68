-- What the bench does at an event, and over a list of events.
use Rattle.std.specs.Prelude.{ℕ, Bool, true, cond, ◌||◌, List, [], ◌∷◌, map, Option}
use Rattle.ground.specs.Lists.{put}
use Rattle.model.specs.Numbers.{word_of, says_move, is_stay}
use Rattle.model.specs.declared.Outcome.{Outcome}
use Rattle.model.specs.declared.Event.{Event}
use Rattle.model.specs.declared.Event.TheVariants.{Lock, Order, Cast, Deliver, Timeout, Decide, Stop, Save, Restore, OfBallots}
use Rattle.protocol.specs.declared.Sends.{Sends}
use Rattle.protocol.specs.declared.Answer.{Answer}
use Rattle.protocol.specs.declared.Sent.{Sent}
use Rattle.protocol.specs.declared.Station.{Station}
use Rattle.protocol.specs.declared.Consensus.{Consensus}
use Rattle.protocol.specs.declared.Counts.{Counts}
use Rattle.protocol.specs.declared.Shared.{Shared}
use Rattle.protocol.specs.declared.Bench.{Bench}
use Rattle.protocol.specs.declared.Effect.{Effect}
use Rattle.protocol.specs.Calls.{save, renew}
use Rattle.protocol.specs.Ballots.{new_ballots}
use Rattle.protocol.specs.BallotSteps.{ballot_subject, ballots_after}
use Rattle.protocol.specs.Counts.{counts_after}
use Rattle.protocol.specs.Benches.{bench_of, no_consensus, all_undecided, station, controller, sent_by, identity, unsent_all, sent_after}
use Rattle.protocol.specs.Events.{subject, source, answer_to}
use Rattle.protocol.specs.Questions.{reply, is_accepted}
use Rattle.model.specs.declared.Checkpoint.{Checkpoint}

-- **New order**: "Old telegrams, words put and the arbiter's choice are gone; cards remain." All that are present are undecided.
unfoldable pub renewed : Station → Station
renewed s = record { controller = renew s.controller; sent = unsent_all; saved = s.saved }

unfoldable pub order_opened : Shared → ℕ → Shared
order_opened m o = record { locked = m.locked; n = m.n; f = m.f; own = m.own; order = o; consensus = no_consensus; counts = all_undecided m.counts.present }

-- what is shared, with another state of the consensus: a word put to it, if any; its choice in this order
abbrev pub with_consensus : Shared → Consensus → Shared
with_consensus m k = record { locked = m.locked; n = m.n; f = m.f; own = m.own; order = m.order; consensus = k; counts = m.counts }

abbrev pub with_counts : Shared → Counts → Shared
with_counts m k = record { locked = m.locked; n = m.n; f = m.f; own = m.own; order = m.order; consensus = m.consensus; counts = k }

unfoldable pub proposed_to : Shared → Outcome → Shared
proposed_to m o = with_consensus m (record {
  move_proposed = m.consensus.move_proposed || says_move o;
  stay_proposed = m.consensus.stay_proposed || is_stay o;
  decision = m.consensus.decision;
})

unfoldable pub decided_as : Shared → Bool → Shared
decided_as m move = with_consensus m (record { move_proposed = m.consensus.move_proposed; stay_proposed = m.consensus.stay_proposed; decision = word_of move })

-- a controller's answer put back: its next state, what it sent, the word it put; the counts follow its condition
unfoldable pub station_after : Station → Answer → Station
station_after s a = record { controller = a.controller; sent = sent_after s.sent a.sends; saved = s.saved }

unfoldable pub answering : Shared → Station → Answer → Effect
answering m s a = record {
  shared = with_counts (proposed_to m a.proposal) (counts_after s.controller.condition a.controller.condition m.counts);
  station = station_after s a;
}

-- "the bench keeps the newest [card] per controller"
unfoldable pub keeping : Station → Option Checkpoint → Station
keeping s new = record { controller = s.controller; sent = s.sent; saved = new }

-- what that controller sends at the event, by the rules
abbrev pub sends_at : Bench → Event → Sends
sends_at b e = (answer_to b.shared e (sent_by b (source e)) (station b (subject e))).sends

-- what an accepted event of one controller does, with that controller's answer: to what is shared, and to that controller's station
unfoldable pub effect_of : Shared → Event → Station → Answer → Effect
effect_of m (Lock n f own) s a = record { shared = m; station = s }
effect_of m (Order o) s a = record { shared = m; station = s }
effect_of m (Cast i willing target) s a = answering m s a
effect_of m (Deliver i j kind) s a = answering m s a
effect_of m (Timeout i) s a = answering m s a
effect_of m (Decide i move) s a = answering (decided_as m move) s a
effect_of m (Stop i) s a = answering m s a
effect_of m (Save i) s a = record { shared = m; station = keeping s (save (identity m i) s.controller) }
effect_of m (Restore i) s a = answering m s a
effect_of m (OfBallots e) s a = record { shared = m; station = s }

abbrev pub effect : Shared → Event → Sent → Station → Effect
effect m e sent s = effect_of m e s (answer_to m e sent s)

-- the effect put back into the bench
abbrev pub put_back : Bench → ℕ → Effect → Bench
put_back b i t = record { shared = t.shared; ballots = b.ballots; stations = put b.stations i t.station }

abbrev pub perform_one : Bench → Event → Bench
perform_one b e = put_back b (subject e) (effect b.shared e (sent_by b (source e)) (station b (subject e)))

-- an accepted event: what it does
unfoldable pub perform : Bench → Event → Bench
perform b (Lock n f own) = bench_of true n f own
perform b (Order o) = record { shared = order_opened b.shared o; ballots = new_ballots; stations = map renewed b.stations }
perform b (Cast i willing target) = perform_one b (Cast i willing target)
perform b (Deliver i j kind) = perform_one b (Deliver i j kind)
perform b (Timeout i) = perform_one b (Timeout i)
perform b (Decide i move) = perform_one b (Decide i move)
perform b (Stop i) = perform_one b (Stop i)
perform b (Save i) = perform_one b (Save i)
perform b (Restore i) = perform_one b (Restore i)
perform b (OfBallots e) = record { shared = b.shared; ballots = ballots_after b.shared.n b.ballots (controller b (ballot_subject e)).proposal e; stations = b.stations }

-- "a refused event leaves the bench untouched"
unfoldable pub step : Bench → Event → Bench
step b e = cond (is_accepted (reply b e)) (perform b e) b

-- "The first goes to a new bench ..; each later one to the bench that the one before returned or left."
unfoldable pub run : Bench → List Event → Bench
run b [] = b
run b (e ∷ es) = run (step b e) es
