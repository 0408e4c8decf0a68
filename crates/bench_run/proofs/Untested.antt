-- On a bench that a list of events leads to, an event is answered and played as without the test of 24.
use mathlib.Core.Path.{◌≡◌, refl, sym, ap, subst, ◌∙◌}
use mathlib.Core.Bool.{true, cond, false≢true}
use mathlib.Core.List.{List, [], ◌∷◌, ◌++◌}
use Rattle.model.specs.declared.Event.{Event}
use Rattle.model.specs.declared.Event.TheVariants.{Lock, Order, Cast, Deliver, Timeout, Decide, Stop, Save, Restore, OfBallots}
use Rattle.protocol.specs.declared.Bench.{Bench}
use Rattle.protocol.specs.Benches.{new_bench, station, sent_by, identity, of_kind}
use Rattle.protocol.specs.Events.{subject, source, answer_to, restore_from}
use Rattle.protocol.specs.Questions.{Reply, accepted, is_accepted, reply}
use Rattle.protocol.specs.Steps.{effect_of, put_back, perform, step, run, decided_as, answering, keeping}
use Rattle.protocol.specs.NoContradiction.{untested_reply, untested_perform, untested_step, untested_run}
use Rattle.protocol.proofs.lists.Moments.{run-append}
use Rattle.protocol.proofs.contradictions.Untouched.{no_contradiction}
use Rattle.protocol.specs.declared.Sent.{Sent}
use Rattle.protocol.specs.declared.Station.{Station}
use Rattle.protocol.specs.declared.Shared.{Shared}
use Rattle.protocol.specs.declared.Effect.{Effect}
use Rattle.bench_turns.proofs.OneStation.{changes_station}
use Rattle.protocol.specs.Rules.{vote_rule}
use Rattle.protocol.specs.Calls.{arrives, timeout, decide, stop, save}

-- what an event of one controller leaves without that test: document 01's rules for a vote and for what arrives
unfoldable pub untested_effect : Shared → Event → Sent → Station → Effect
untested_effect m (Lock n f own) sent s = record { shared = m; station = s }
untested_effect m (Order o) sent s = record { shared = m; station = s }
untested_effect m (Cast i willing target) sent s = answering m s (vote_rule m.n m.f i willing target s.controller)
untested_effect m (Deliver i j kind) sent s = answering m s (arrives kind m.n m.f i (of_kind kind sent).votes s.controller)
untested_effect m (Timeout i) sent s = answering m s (timeout (identity m i) s.controller)
untested_effect m (Decide i move) sent s = answering (decided_as m move) s (decide move s.controller)
untested_effect m (Stop i) sent s = answering m s (stop s.controller)
untested_effect m (Save i) sent s = record { shared = m; station = keeping s (save (identity m i) s.controller) }
untested_effect m (Restore i) sent s = answering m s (restore_from (identity m i) s.saved s.controller)
untested_effect m (OfBallots e) sent s = record { shared = m; station = s }

untested-one : (b : Bench) (es : List Event) (e : Event) → untested_run b (es ++ (e ∷ [])) ≡ untested_step (untested_run b es) e
unfolding untested_run
untested-one b [] e = refl
untested-one b (x ∷ es) e = untested-one (untested_step b x) es e

untested-after : (es : List Event) (e : Event) → step (run new_bench es) e ≡ untested_step (run new_bench es) e
unfolding run
untested-after es e =
    sym (run-append es (e ∷ []) new_bench)
    ∙ no_contradiction.benches (es ++ (e ∷ []))
    ∙ untested-one new_bench es e
    ∙ ap (λ (b : Bench). untested_step b e) (sym (no_contradiction.benches es))

module _ (b : Bench) (es : List Event) (here : b ≡ run new_bench es) (e : Event) where
  pub same-reply : untested_reply b e ≡ reply b e
  same-reply = subst (λ (x : Bench). untested_reply x e ≡ reply x e) (sym here) (sym (no_contradiction.answers es e))

  same_step : step b e ≡ untested_step b e
  same_step = subst (λ (x : Bench). step x e ≡ untested_step x e) (sym here) (untested-after es e)

  pub accepted-step : untested_reply b e ≡ accepted → step b e ≡ untested_perform b e
  accepted-step a = same_step ∙ unfold untested_step in ap (λ (r : Reply). cond (is_accepted r) (untested_perform b e) b) a

-- what it then does: its effect on one station
pub performs : (b : Bench) (e : Event) → changes_station e ≡ true
    → untested_perform b e ≡ put_back b (subject e) (untested_effect b.shared e (sent_by b (source e)) (station b (subject e)))
unfolding untested_effect perform effect_of answer_to
performs b (Lock n f own) o = absurd (false≢true o)
performs b (Order k) o = absurd (false≢true o)
performs b (Cast i willing target) o = refl
performs b (Deliver i j kind) o = refl
performs b (Timeout i) o = refl
performs b (Decide i move) o = refl
performs b (Stop i) o = refl
performs b (Save i) o = refl
performs b (Restore i) o = refl
performs b (OfBallots e) o = absurd (false≢true o)
