-- At every moment of every list the running controllers have done with what came to them what Listening says: after a lock nothing came, and each event
-- keeps it (Events).
use Prim.Native.Nat.{ℕ}
use mathlib.Core.Path.{◌≡◌, refl, sym, ◌∙◌, ap, subst}
use mathlib.Core.Bool.{Bool, true}
use mathlib.Core.List.{List, [], ◌∷◌}
use native.Mathlib.Omega.{arith}
use mathlib.Core.Logic.{inl, inr}
use Rattle.ground.specs.Tests.{no_both, split}
use Rattle.ground.specs.Mask.{has}
use Rattle.ground.proofs.MaskLaws.{none_has}
use Rattle.model.specs.RangeLaws.{Ranges, ranges}
use Rattle.model.specs.declared.Event.{Event}
use Rattle.protocol.specs.declared.Bench.{Bench}
use Rattle.protocol.specs.declared.Sent.{Sent}
use Rattle.protocol.specs.Controllers.{phase}
use Rattle.protocol.specs.Benches.{unsent_all, bench_of, controller, sent_by}
use Rattle.protocol.specs.Steps.{step, run}
use Rattle.protocol.specs.Claim.{after}
use Rattle.protocol.proofs.view.View.{View, accepts}
use Rattle.protocol.proofs.view.Performed.{step_v}
use Rattle.protocol.proofs.view.Simulation.{view, Sound, Steps, step_steps, reply_sim, step_sim}
use Rattle.protocol.proofs.invariant.Words.{none-word}
use Rattle.protocol.proofs.invariant.Decisions.{Blank}
use Rattle.protocol.proofs.lists.Moments.{push, log_of, log_at}
use Rattle.protocol.proofs.lists.Start.{unput, Opened, freshes}
use Rattle.protocol.proofs.lists.Reach.{locked-sound}
use Rattle.protocol.proofs.hearing.Events.{Heard, perform-heard}

pub record HeardAt (b : Bench) (log : List Event) : Type 0 where
  pub sound : Sound b
  pub heard : Heard b.shared.n b.shared.f (view b) log

step-heard : (b : Bench) (e : Event) (log : List Event) → HeardAt b log → HeardAt (step b e) (push b e log)
step-heard b e log h =
    let s : Steps b h.sound (step b e) = step_steps b h.sound e in
    record {
      sound = s.sound;
      heard = subst (λ (x : ℕ). Heard x (step b e).shared.f (view (step b e)) (push b e log)) (sym s.same-n)
          (subst (λ (x : ℕ). Heard b.shared.n x (view (step b e)) (push b e log)) (sym s.same-f)
          (subst (λ (v : View). Heard b.shared.n b.shared.f v (push b e log)) (sym (step_sim b h.sound e)) core));
    }
  where
    core : Heard b.shared.n b.shared.f (step_v b.shared.n b.shared.f (view b) e) (push b e log)
    core = unfold step_v push in elim (split (accepts b.shared.n b.shared.f (view b) e)) [
      | inl q ↦ rw (reply_sim b h.sound e, q)
          (let r : Ranges b.shared.n b.shared.f = ranges b.shared.n b.shared.f h.sound.sized in
          perform-heard b.shared.n b.shared.f r.high r.low r.small (view b) h.sound.inv log h.heard e q)
      | inr q ↦ rw (reply_sim b h.sound e, q) h.heard
    ]

run-heard : (es : List Event) (b : Bench) (log : List Event) → HeardAt b log → HeardAt (run b es) (log_of b log es)
unfolding run log_of
run-heard [] b log h = h
run-heard (e ∷ es) b log h = run-heard es (step b e) (push b e log) (step-heard b e log h)

-- right after the lock
lock-heard : (n f : ℕ) (own : Bool) → Heard n f (view (bench_of true n f own)) []
unfolding view
lock-heard n f own = record {
  listening = λ i lo hi r. let b : Blank (controller (bench_of true n f own) i) = (freshes true n f own i).ctl in record {
    came = record { calls = λ k m. absurd m; unhelped = λ p k m. m; answers = λ w k m. absurd m; acks = λ p k m. absurd m; decisions = λ w m. absurd m };
    stands = record {
      waits = λ w. absurd (no_both _ w b.waiting);
      ended = λ p. absurd (let q : phase (controller (bench_of true n f own) i) ≡ 0 = b.phase in omega arith);
      acked = λ p. absurd (let q : phase (controller (bench_of true n f own) i) ≡ 0 = b.phase in omega arith);
    };
    short = λ w. absurd (no_both _ w b.waiting);
  };
  asked = λ k i e. none_has i (nothing k i e);
  put = λ i w e. none-word w (sym (unput n f own i) ∙ e);
}
  where
    nothing : (k i : ℕ) → has (sent_by (bench_of true n f own) k).helped.to i ≡ true → has 0 i ≡ true
    nothing k i e = unfold unsent_all in ap (λ (l : Sent). has l.helped.to i) (sym (freshes true n f own k).sent) ∙ e

-- a list in which a lock was accepted
pub heard-at : (es : List Event) → Opened es → HeardAt (after es) (log_at es)
heard-at es o = subst (λ (b : Bench). HeardAt b (log_at es)) (sym o.is) (subst (HeardAt (run (bench_of true o.n o.f o.own) o.post)) (sym o.silent) from-lock)
  where
    locked : HeardAt (bench_of true o.n o.f o.own) []
    locked = unfold bench_of in record { sound = locked-sound _ (record { n = o.n; f = o.f; own = o.own; sized = o.sized; is = refl }); heard = lock-heard o.n o.f o.own }

    from-lock : HeardAt (run (bench_of true o.n o.f o.own) o.post) (log_of (bench_of true o.n o.f o.own) [] o.post)
    from-lock = run-heard o.post (bench_of true o.n o.f o.own) [] locked
