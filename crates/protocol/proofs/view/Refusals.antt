-- A refusal comes of the test of a delivered vote set alone: no rule refuses, and so no event but a delivery is answered 24.
use Prim.Native.Nat.{ℕ}
use mathlib.Core.Path.{◌≡◌, refl}
use mathlib.Core.Bool.{Bool, true, false, ◌&&◌, ◌||◌, true≢false}
use lib.Dec.{eqb}
use Rattle.ground.specs.Tests.{by_cond}
use Rattle.votes.specs.declared.VoteSet.{VoteSet}
use Rattle.model.specs.declared.Kind.{Kind}
use Rattle.model.specs.declared.Event.{Event}
use Rattle.model.specs.declared.Event.TheVariants.{Lock, Order, Cast, Deliver, Timeout, Decide, Stop, Save, Restore, OfBallots}
use Rattle.protocol.specs.declared.Identity.{Identity}
use Rattle.protocol.specs.declared.Controller.{Controller}
use Rattle.protocol.specs.declared.Answer.{Answer}
use Rattle.protocol.specs.declared.Sent.{Sent}
use Rattle.protocol.specs.declared.Station.{Station}
use Rattle.protocol.specs.declared.Shared.{Shared}
use Rattle.protocol.specs.Controllers.{runs, does_stand_by, phase}
use Rattle.protocol.specs.Rules.{is_contradicted, passing_over, becomes, proposing, vote_rule, first_timeout, propose_if_sufficient, ready, calls_help, second_timeout, answers_call}
use Rattle.protocol.specs.Calls.{valid_identity, vote, arrives, timeout, awaits_decision, decide, stop}
use Rattle.protocol.specs.Events.{restore_from, answer_to}
use Rattle.protocol.specs.Questions.{agrees_at}
use Rattle.protocol.proofs.view.RuleCases.{restore_cases, sufficient_cases, second_cases, arrives_cases}
use Rattle.std.specs.Prelude.{Option}
use Rattle.model.specs.declared.Checkpoint.{Checkpoint}

pub record Unrefused (a : Answer) : Type 0 where
  pub is : is_contradicted a.reception ≡ false

module _ (c : Controller) where
  passed_unrefused : Unrefused (passing_over c)
  unfolding passing_over
  passed_unrefused = record { is = refl }

  becomes_unrefused : Unrefused (becomes c)
  unfolding becomes
  becomes_unrefused = record { is = refl }

-- counting may put a word; it refuses as little as what it counts on
counted_unrefused : (n f : ℕ) (a : Answer) → Unrefused a → Unrefused (propose_if_sufficient n f a)
counted_unrefused n f a u = sufficient_cases Unrefused n f a (λ q. unfold proposing in record { is = u.is }) (λ q. u)

pub arrives_unrefused : (kind : Kind) (n f j : ℕ) (s : VoteSet) (c : Controller) → Unrefused (arrives kind n f j s c)
arrives_unrefused kind n f j s c = arrives_cases Unrefused n f kind j s c (λ c' q. becomes_unrefused c') (counted_unrefused n f) (λ z p q. unfold answers_call in record { is = refl }) (passed_unrefused c)

second_unrefused : (n f i : ℕ) (c : Controller) → Unrefused (second_timeout n f i c)
second_unrefused n f i c = second_cases Unrefused n f i c (λ q. unfold ready in record { is = refl }) (λ q. unfold proposing ready in record { is = refl })
    (λ q. counted_unrefused n f _ (unfold calls_help in record { is = refl }))

timeout_unrefused : (me : Identity) (c : Controller) → Unrefused (timeout me c)
unfolding timeout
timeout_unrefused me c = by_cond Unrefused (valid_identity me && runs c && eqb (phase c) 1) _ _ (λ e. unfold first_timeout in record { is = refl })
    (λ e. by_cond Unrefused (valid_identity me && runs c && eqb (phase c) 2) _ _ (λ q. second_unrefused me.n me.f me.id c) (λ q. passed_unrefused c))

vote_unrefused : (me : Identity) (w : Bool) (t : ℕ) (c : Controller) → Unrefused (vote me w t c)
unfolding vote vote_rule
vote_unrefused me w t c = by_cond Unrefused (valid_identity me && runs c && eqb (phase c) 0) _ _ (λ e. record { is = refl }) (λ e. passed_unrefused c)

decide_unrefused : (w : Bool) (c : Controller) → Unrefused (decide w c)
unfolding decide
decide_unrefused w c = by_cond Unrefused (awaits_decision c) _ _ (λ e. becomes_unrefused _) (λ e. passed_unrefused c)

stop_unrefused : (c : Controller) → Unrefused (stop c)
unfolding stop
stop_unrefused c = by_cond Unrefused (runs c || does_stand_by c) _ _ (λ e. becomes_unrefused _) (λ e. passed_unrefused c)

restore_unrefused : (me : Identity) (x : Option Checkpoint) (c : Controller) → Unrefused (restore_from me x c)
restore_unrefused me x c = restore_cases Unrefused me x c (λ p q e. becomes_unrefused _) (passed_unrefused c)

abbrev pub delivers : Event → Bool
delivers (Lock n f own) = false
delivers (Order o) = false
delivers (Cast i willing target) = false
delivers (Deliver i j kind) = true
delivers (Timeout i) = false
delivers (Decide i move) = false
delivers (Stop i) = false
delivers (Save i) = false
delivers (OfBallots e) = false
delivers (Restore i) = false

unrefused : (m : Shared) (e : Event) (sent : Sent) (s : Station) → delivers e ≡ false → Unrefused (answer_to m e sent s)
unfolding answer_to
unrefused m (Lock n f own) sent s d = passed_unrefused _
unrefused m (Order o) sent s d = passed_unrefused _
unrefused m (Cast i w t) sent s d = vote_unrefused _ w t _
unrefused m (Deliver i j k) sent s d = absurd (true≢false d)
unrefused m (Timeout i) sent s d = timeout_unrefused _ _
unrefused m (Decide i w) sent s d = decide_unrefused w _
unrefused m (Stop i) sent s d = stop_unrefused _
unrefused m (Save i) sent s d = passed_unrefused _
unrefused m (OfBallots e) sent s d = passed_unrefused _
unrefused m (Restore i) sent s d = restore_unrefused _ s.saved _

pub others_agree : (m : Shared) (e : Event) (sent : Sent) (s : Station) → delivers e ≡ false → agrees_at m e sent s ≡ true
others_agree m e sent s d = rw (unrefused m e sent s d).is
