-- Right after an order was opened, at a lock of either kind: the lock and the order, what holds at every moment (Moments), and that each controller runs
-- and holds nothing.
use Prim.Native.Nat.{ℕ, ◌≤◌, ◌<◌}
use mathlib.Core.Path.{◌≡◌, refl, sym, ◌∙◌, ap, subst}
use mathlib.Core.Bool.{Bool, true}
use mathlib.Core.List.{List, [], ◌∷◌}
use native.Mathlib.Omega.{arith}
use mathlib.Core.Logic.{inl, inr}
use Rattle.ground.specs.Limit.{limit}
use Rattle.model.specs.Ranges.{sizes_in_range}
use Rattle.model.specs.RangeLaws.{ranges}
use Rattle.model.specs.declared.Event.{Event}
use Rattle.model.specs.declared.Event.TheVariants.{Lock, Order}
use Rattle.protocol.specs.declared.Bench.{Bench}
use Rattle.protocol.specs.Controllers.{runs}
use Rattle.protocol.specs.Ballots.{new_ballots}
use Rattle.protocol.specs.Benches.{bench_of}
use Rattle.protocol.specs.Steps.{renewed, order_opened}
use Rattle.protocol.specs.Claim.{after}
use Rattle.protocol.proofs.view.View.{View, opened_v}
use Rattle.protocol.proofs.view.Simulation.{view, step_steps}
use Rattle.protocol.proofs.invariant.Invariant.{Inv}
use Rattle.protocol.proofs.invariant.Decisions.{Blank, renew-blank}
use Rattle.protocol.proofs.clean.Reached.{begins, shows, fresh-going}
use Rattle.protocol.proofs.lists.Moments.{log_at}
use Rattle.protocol.proofs.lists.Start.{start, lock-sound}
use Rattle.protocol.proofs.hearing.Events.{Heard}
use Rattle.protocol.proofs.hearing.Moments.{HeardAt, heard-at}
use Rattle.protocol.proofs.hearing.Later.{view_at, Moment}

module _ (n f : ℕ) (sized : sizes_in_range n f ≡ true) (own : Bool) where
  abbrev pub opening : List Event
  opening = Lock n f own ∷ Order 1 ∷ []

  is_n₀ : (after opening).shared.n ≡ n
  is_n₀ = ap (λ (b : Bench). b.shared.n) (begins n f sized own) ∙ (step_steps (bench_of true n f own) (lock-sound n f own sized) (Order 1)).same-n ∙ (unfold bench_of in refl)

  is_f₀ : (after opening).shared.f ≡ f
  is_f₀ = ap (λ (b : Bench). b.shared.f) (begins n f sized own) ∙ (step_steps (bench_of true n f own) (lock-sound n f own sized) (Order 1)).same-f ∙ (unfold bench_of in refl)

  view₀ : view_at opening ≡ opened_v n f (view (bench_of true n f own)) 1
  view₀ = ap view (begins n f sized own) ∙ shows n f sized own

  heard₀ : HeardAt (after opening) (log_at opening)
  heard₀ = elim (start opening) [
    | inl z ↦ absurd (let q : (after opening).shared.n ≡ 0 = ap (λ (b : Bench). b.shared.n) z ∙ (unfold bench_of in refl) in let r : f < n = (ranges n f sized).high in let e : (after opening).shared.n ≡ n = is_n₀ in omega arith)
    | inr o ↦ heard-at opening o
  ]

  pub opening-moment : (f<n : f < n) (1≤f : 1 ≤ f) (small : n ≤ limit) → Moment n f 1 f<n 1≤f small opening
  opening-moment f<n 1≤f small = record {
    sound = heard₀.sound;
    is-n = is_n₀;
    is_f = is_f₀;
    is-order = order;
    inv = subst (λ (x : ℕ). Inv x f (view_at opening)) is_n₀ (subst (λ (x : ℕ). Inv (after opening).shared.n x (view_at opening)) is_f₀ heard₀.sound.inv);
    heard = subst (λ (x : ℕ). Heard x f (view_at opening) (log_at opening)) is_n₀ (subst (λ (x : ℕ). Heard (after opening).shared.n x (view_at opening) (log_at opening)) is_f₀ heard₀.heard);
  }
    where
      order : (after opening).shared.order ≡ 1
      order = unfold view opened_v order_opened in ap (λ (v : View). v.order) view₀

  pub opening-own : (view_at opening).own ≡ own
  opening-own = ap (λ (v : View). v.own) view₀ ∙ (unfold view opened_v order_opened bench_of in refl)

  pub opening-runs : (k : ℕ) → 1 ≤ k → k ≤ n → runs ((view_at opening).ctl k) ≡ true
  opening-runs k a b = subst (λ (v : View). runs (v.ctl k) ≡ true) (sym view₀) ((fresh-going n f sized own).able k a b).running

  pub opening-blank : (k : ℕ) → Blank ((view_at opening).ctl k)
  opening-blank k = subst (λ (v : View). Blank (v.ctl k)) (sym view₀) (unfold opened_v renewed in renew-blank _)

  pub opening-ballots : (view_at opening).ballots ≡ new_ballots
  opening-ballots = ap (λ (v : View). v.ballots) view₀ ∙ (unfold opened_v in refl)
