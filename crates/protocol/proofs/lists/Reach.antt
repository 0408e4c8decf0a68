-- Every bench that a list of events leads to from a new one is new, or has its lock and keeps the invariant: the lock begins with it (Start), and each
-- event keeps it (view/Simulation). Theorems over every list go by this.
use Prim.Native.Nat.{ℕ, ◌≤◌}
use mathlib.Core.Path.{◌≡◌, refl, sym, subst}
use mathlib.Core.Bool.{Bool, true}
use mathlib.Core.List.{List, [], ◌∷◌}
use mathlib.Core.Logic.{◌⊎◌, inl, inr}
use native.Mathlib.Omega.{arith}
use Rattle.ground.specs.Limit.{limit}
use Rattle.ground.specs.Tests.{split}
use Rattle.model.specs.Ranges.{sizes_in_range}
use Rattle.model.specs.RangeLaws.{ranges}
use Rattle.model.specs.declared.Event.{Event}
use Rattle.model.specs.declared.Event.TheVariants.{Lock}
use Rattle.protocol.specs.declared.Bench.{Bench}
use Rattle.protocol.specs.Benches.{new_bench, bench_of}
use Rattle.protocol.specs.Questions.{is_accepted, first_no, reply}
use Rattle.protocol.specs.Steps.{perform, step, run}
use Rattle.protocol.specs.Claim.{after}
use Rattle.protocol.proofs.view.Simulation.{Sound, step_steps}
use Rattle.protocol.proofs.view.View.{ask_l}
use Rattle.protocol.proofs.view.Kinds.{IsLock}
use Rattle.protocol.proofs.lists.Moments.{refused-step}
use Rattle.protocol.proofs.lists.Start.{new-lock, lock-sound}

abbrev pub Reached : Bench → Type 0
Reached b = (b ≡ new_bench) ⊎ Sound b

-- the new bench accepts a lock alone
pub record JustLocked (b : Bench) : Type 0 where
  pub n : ℕ
  pub f : ℕ
  pub own : Bool
  pub sized : sizes_in_range n f ≡ true
  pub is : b ≡ bench_of true n f own

pub new-step : (e : Event) → (step new_bench e ≡ new_bench) ⊎ JustLocked (step new_bench e)
new-step e = elim (split (is_accepted (reply new_bench e))) [
  | inl q ↦ let l : IsLock e = new-lock e q in inr (subst (λ (x : Event). JustLocked (step new_bench x)) (sym l.is) (locks l.n l.f l.own (rw l.is at q)))
  | inr q ↦ inl (refused-step new_bench e q)
]
  where
    locks : (n f : ℕ) (own : Bool) → is_accepted (reply new_bench (Lock n f own)) ≡ true → JustLocked (step new_bench (Lock n f own))
    locks n f own q = record { n = n; f = f; own = own; sized = unfold reply first_no in ask_l _ _ _ q; is = unfold step perform in rw q }

pub locked-sound : (b : Bench) → JustLocked b → Sound b
locked-sound b l = subst Sound (sym l.is) (lock-sound l.n l.f l.own l.sized)

new-reached : (e : Event) → Reached (step new_bench e)
new-reached e = elim (new-step e) [ inl z ↦ inl z | inr l ↦ inr (locked-sound (step new_bench e) l) ]

pub step-reached : (b : Bench) (e : Event) → Reached b → Reached (step b e)
step-reached b e (inl z) = subst (λ (x : Bench). Reached (step x e)) (sym z) (new-reached e)
step-reached b e (inr ok) = inr (step_steps b ok e).sound

run-reached : (es : List Event) (b : Bench) → Reached b → Reached (run b es)
unfolding run
run-reached [] b r = r
run-reached (e ∷ es) b r = run-reached es (step b e) (step-reached b e r)

pub reached : (es : List Event) → Reached (after es)
reached es = run-reached es new_bench (inl refl)

-- so it has no more controllers than a lock may have
reached-limit : (b : Bench) → Reached b → b.shared.n ≤ limit
reached-limit b (inl z) = subst (λ (x : Bench). x.shared.n ≤ limit) (sym z) (unfold bench_of in omega arith)
reached-limit b (inr a) = (ranges b.shared.n b.shared.f a.sized).small

pub controllers-limit : (es : List Event) → (run new_bench es).shared.n ≤ limit
controllers-limit es = reached-limit (run new_bench es) (reached es)
