-- Every running gate hears: the argument, at one moment. One that waits has called all others beyond the backups; each running one of them took the
-- call, and is past its second timeout, so its answer came back and was counted; each running backup's acknowledgement came and was counted. So
-- what it has counted are all that run, and these are too many for it still to wait.
use Prim.Native.Nat.{ℕ, ◌+◌, ◌≤◌, ◌<◌}
use mathlib.Core.Path.{◌≡◌, refl, sym, ◌∙◌, ap, subst}
use mathlib.Core.Bool.{true, false, not, false≢true}
use mathlib.Core.List.{List}
use native.Mathlib.Omega.{arith}
use native.Mathlib.Decide.{dec_le, ℕ_discrete}
use mathlib.Core.Logic.{◌⊎◌, inl, inr}
use Rattle.ground.specs.Tests.{split}
use Rattle.ground.specs.Quantify.{count_to}
use Rattle.ground.specs.Mask.{has}
use Rattle.model.specs.Numbers.{is_none}
use Rattle.model.specs.declared.Kind.{Kind}
use Rattle.model.specs.declared.Kind.TheVariants.{Ack, Help, Helped}
use Rattle.model.specs.declared.Event.{Event}
use Rattle.model.specs.declared.Event.TheVariants.{Deliver, Decide}
use Rattle.protocol.specs.declared.Condition.{Condition}
use Rattle.protocol.specs.declared.Condition.TheVariants.{Running, Stopped, Standby}
use Rattle.protocol.specs.declared.Controller.{Controller}
use Rattle.protocol.specs.declared.Bench.{Bench}
use Rattle.protocol.specs.Controllers.{is_running, phase_in, runs, phase, outcome, has_ack, has_helped}
use Rattle.protocol.specs.Benches.{new_bench, bench_of, controller, sent_by}
use Rattle.protocol.specs.Display.{stage_shown, shown_outcome, WasSent}
use Rattle.protocol.specs.Claim.{after, HoldsSome}
use Rattle.protocol.specs.Termination.{RunsAt, WasGiven, Premise, few-down, at-stage_3, delivered, answered, Meets}
use Rattle.protocol.proofs.view.Simulation.{view}
use Rattle.protocol.proofs.invariant.Invariant.{Own}
use Rattle.protocol.proofs.clean.Log.{In}
use Rattle.protocol.proofs.lists.Moments.{log_at, in-log}
use Rattle.protocol.proofs.lists.Start.{start}
use Rattle.protocol.proofs.hearing.Counts.{count_cover, count_both}
use Rattle.protocol.proofs.hearing.Listening.{Listening}
use Rattle.protocol.proofs.hearing.Moments.{HeardAt, heard-at}

-- the stage shown is the phase of one that runs
pub stage_is : (k : Condition) → is_running k ≡ true → stage_shown k ≡ phase_in k
stage_is (Running p) e = refl
stage_is Stopped e = absurd (false≢true e)
stage_is (Standby o) e = absurd (false≢true e)

module _ (es : List Event) (h : HeardAt (after es) (log_at es)) (m : (p : Premise) → Meets p es) where
  abbrev b : Bench
  b = after es

  abbrev n : ℕ
  n = b.shared.n

  abbrev f : ℕ
  f = b.shared.f

  listens : (i : ℕ) → RunsAt es i → Listening n f i (controller b i) (sent_by b i) (log_at es)
  unfolding view
  listens i r = h.heard.listening i r.low r.high r.running

  own : (i : ℕ) → Own n f i (controller b i) (sent_by b i)
  unfolding view
  own i = h.sound.inv.owns i

  at_3 : (i : ℕ) → RunsAt es i → 3 ≤ phase (controller b i)
  at_3 i r = let q : phase (controller b i) ≡ 3 = sym (stage_is (controller b i).condition r.running) ∙ m at-stage_3 i r in omega arith

  came : (kind : Kind) (i j : ℕ) → WasSent b kind i j → RunsAt es j → In (Deliver i j kind) (log_at es)
  came kind i j s r = in-log es (Deliver i j kind) refl (m delivered kind i j s r)

  module _ (i : ℕ) (r : RunsAt es i) where
    abbrev c : Controller
    c = controller b i

    -- one that waits has counted each that runs
    counted : c.help.waiting ≡ true → (k : ℕ) → 1 ≤ k → k ≤ n → runs (controller b k) ≡ true → (has_ack c k ≡ true) ⊎ (has_helped c k ≡ true)
    counted w k lo hi q = elim (ℕ_discrete i k) [
      | yes z ↦ inr (subst (λ (x : ℕ). has_helped c x ≡ true) z ((listens i r).stands.waits w).itself)
      | no z ↦ elim (dec_le k f) [
        | yes x ↦ inl ((listens i r).came.acks (inr w) k (came Ack k i ((listens k rk).stands.acked (omega (arith, at_3 k rk)) x i r.low r.high (λ y. z (sym y))) r))
        | no x ↦ inr ((listens i r).came.answers w k (came Helped k i (answer z (omega arith)) r))
      ]
    ]
      where
        rk : RunsAt es k
        rk = record { low = lo; high = hi; running = q }

        -- it called k, which took the call and has answered it
        answer : (i ≡ k → ⊥) → f < k → WasSent b Helped k i
        answer d x = (own k).helping.answered (at_3 k rk) i ∙ (listens k rk).came.calls i (came Help i k (((listens i r).stands.waits w).called k x hi d) rk)

    waits-not : c.help.waiting ≡ true → ⊥
    waits-not w =
        let few : count_to n (λ k. not (runs (controller b k))) ≤ f = m few-down in
        let all : count_to n (λ k. runs (controller b k)) + count_to n (λ k. not (runs (controller b k))) ≡ n = count_both n (λ k. runs (controller b k)) in
        let cover : count_to n (λ k. runs (controller b k)) ≤ count_to n (has c.acks.from) + count_to n (has c.helped.from) = count_cover n (λ k. runs (controller b k)) (has c.acks.from) (has c.helped.from) (counted w) in
        let x : c.acks.cnt.0 ≡ count_to n (has c.acks.from) = (own i).counted.ack-count in
        let y : c.helped.cnt_help.0 ≡ count_to n (has c.helped.from) = (own i).counted.help-count in
        let short : c.acks.cnt.0 + c.helped.cnt_help.0 + f < n = (listens i r).short w in
        omega arith

    hears-at : is_none (outcome c) ≡ false
    hears-at = elim (split (is_none (outcome c))) [
      | inr e ↦ e
      | inl e ↦ elim (split (is_none c.proposal)) [
        | inl p ↦ absurd (waits-not ((listens i r).stands.ended (at_3 i r) e p))
        | inr p ↦ let g : WasGiven es i = m answered i r p in (listens i r).came.decisions g.move (in-log es (Decide i g.move) refl g.event)
      ]
    ]

-- with no lock there is no controller
unlocked : (es : List Event) (i : ℕ) → after es ≡ new_bench → RunsAt es i → ⊥
unlocked es i z r = let q : (after es).shared.n ≡ 0 = ap (λ (b : Bench). b.shared.n) z ∙ (unfold bench_of in refl) in let lo : 1 ≤ i = r.low in let hi : i ≤ (after es).shared.n = r.high in omega arith

pub hears : (es : List Event) → ((p : Premise) → Meets p es) → (i : ℕ) → RunsAt es i → HoldsSome es i
hears es m i r = elim (start es) [
  | inl z ↦ absurd (unlocked es i z r)
  | inr o ↦ record { outcome = shown_outcome (after es) i; holds = record { shows = refl; some = hears-at es (heard-at es o) m i r } }
]
