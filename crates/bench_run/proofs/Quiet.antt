-- On every bench that a list of events leads to, the ballots of a lock with an arbiter are new; a new order leaves them so.
use mathlib.Core.Path.{◌≡◌, refl, sym, subst, ◌∙◌}
use mathlib.Core.Bool.{Bool, true, false, false≢true}
use mathlib.Core.List.{List, [], ◌∷◌}
use Prim.Native.Nat.{ℕ}
use Rattle.ground.specs.Tests.{by_cond, and_l}
use Rattle.model.specs.QuestionLaws.{is-accepted, AllYes, all_yes}
use Rattle.model.specs.declared.Event.{Event}
use Rattle.model.specs.declared.Event.TheVariants.{Lock, Order, Cast, Deliver, Timeout, Decide, Stop, Save, Restore, OfBallots}
use Rattle.model.specs.declared.BallotEvent.TheVariants.{Open, Carry}
use Rattle.protocol.specs.declared.Bench.{Bench}
use Rattle.protocol.specs.Ballots.{new_ballots}
use Rattle.protocol.specs.Benches.{bench_of, new_bench}
use Rattle.protocol.specs.Questions.{is_accepted, questions, reply}
use Rattle.protocol.specs.Steps.{order_opened, proposed_to, decided_as, answering, effect_of, perform, step, run}

abbrev pub Quiet : Bench → Type 0
Quiet b = b.shared.own ≡ false → b.ballots ≡ new_ballots

new_quiet : (locked : Bool) (n f : ℕ) (own : Bool) → Quiet (bench_of locked n f own)
unfolding bench_of
new_quiet locked n f own h = refl

-- an event of ballots is accepted only at a lock that has them
perform_quiet : (b : Bench) (e : Event) → AllYes (questions b e) → Quiet b → Quiet (perform b e)
unfolding perform order_opened effect_of answering proposed_to decided_as
perform_quiet b (Lock n f own) y h = new_quiet true n f own
perform_quiet b (Order o) y h = λ k. refl
perform_quiet b (Cast i w t) y h = h
perform_quiet b (Deliver i j k) y h = h
perform_quiet b (Timeout i) y h = h
perform_quiet b (Decide i w) y h = h
perform_quiet b (Stop i) y h = h
perform_quiet b (Save i) y h = h
perform_quiet b (Restore i) y h = h
perform_quiet b (OfBallots (Open i k)) y h = λ q. absurd (false≢true (sym q ∙ and_l b.shared.own _ y.1.1.1.1.1.0))
perform_quiet b (OfBallots (Carry i j kind k)) y h = λ q. absurd (false≢true (sym q ∙ and_l b.shared.own _ y.1.1.1.1.1.0))

step_quiet : (b : Bench) (e : Event) → Quiet b → Quiet (step b e)
unfolding step reply
step_quiet b e h = by_cond Quiet (is_accepted (reply b e)) (perform b e) b (λ q. perform_quiet b e (all_yes (questions b e) (is-accepted (reply b e) q)) h) (λ q. h)

run_quiet : (es : List Event) (b : Bench) → Quiet b → Quiet (run b es)
unfolding run
run_quiet [] b h = h
run_quiet (e ∷ es) b h = run_quiet es (step b e) (step_quiet b e h)

pub quiet : (b : Bench) (es : List Event) → b ≡ run new_bench es → Quiet b
quiet b es here = subst Quiet (sym here) (run_quiet es new_bench (new_quiet false 0 0 false))
