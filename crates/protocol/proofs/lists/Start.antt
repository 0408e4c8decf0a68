-- From the new bench on: either nothing was accepted yet, or one lock was, and the views start from a fresh bench of that n and f. Every event but a
-- lock asks for one (view/Kinds); a fresh bench holds nothing, so it keeps what is claimed of benches.
use Prim.Native.Nat.{ℕ, zero, suc, ◌≤◌, ◌<◌}
use mathlib.Core.Path.{◌≡◌, refl, sym, ◌∙◌, ap, subst}
use mathlib.Core.Bool.{Bool, true, false, false≢true}
use mathlib.Core.List.{List, [], ◌∷◌, ◌++◌}
use native.Mathlib.Omega.{arith}
use lib.ListN.{length, replicate}
use mathlib.Core.Logic.{◌⊎◌, inl, inr}
use Rattle.ground.specs.Tests.{split, by_cond}
use Rattle.ground.proofs.MaskLaws.{has-none, none_has}
use Rattle.ground.specs.Lists.{nth}
use Rattle.votes.specs.VoteSets.{empty}
use Rattle.votes.specs.declared.VoteSet.{VoteSet}
use Rattle.ground.specs.Limit.{limit}
use Rattle.model.specs.Ranges.{sizes_in_range}
use Rattle.model.specs.RangeLaws.{ranges}
use Rattle.model.specs.declared.Outcome.TheVariants.{None}
use Rattle.model.specs.declared.Event.{Event}
use Rattle.model.specs.declared.Event.TheVariants.{Lock}
use Rattle.protocol.specs.declared.Station.{Station}
use Rattle.model.specs.declared.Checkpoint.{Checkpoint}
use Rattle.protocol.specs.declared.Bench.{Bench}
use Rattle.protocol.specs.Benches.{unsent_all, fresh, fresh_station, bench_of, new_bench, station, controller}
use Rattle.protocol.specs.Questions.{is_accepted, first_no, reply}
use Rattle.protocol.specs.Steps.{perform, step, run}
use Rattle.protocol.specs.Display.{shown_outcome, shown_position}
use Rattle.protocol.specs.Events.{concerns_one}
use Rattle.protocol.proofs.paxos.Order.{Balloted, new-balloted}
use Rattle.protocol.proofs.invariant.Invariant.{voted_by, acked_by, Inv}
use Rattle.protocol.proofs.invariant.Decisions.{Blank, blank-inv}
use Rattle.protocol.proofs.clean.Log.{entered}
use Rattle.protocol.proofs.clean.Parts.{Good, blank_good}
use Rattle.protocol.proofs.view.View.{ask_l, all-of_copies}
use Rattle.protocol.proofs.view.Kinds.{IsLock, locks-or_locked}
use Rattle.protocol.proofs.view.Simulation.{view, Any, Sound}
use Rattle.protocol.proofs.ranges.Ranges.{InRange, SentIn, AllIn, unsent_in}
use Rattle.protocol.proofs.lists.Moments.{push, log_of, refused-step}
use Rattle.std.specs.Prelude.{Option, Some, None}

-- one lock was accepted
pub record Opened (es : List Event) : Type 0 where
  pub n : ℕ
  pub f : ℕ
  pub own : Bool
  pub pre : List Event
  pub post : List Event
  pub parts : es ≡ pre ++ (Lock n f own ∷ post)
  pub sized : sizes_in_range n f ≡ true
  pub idle : run new_bench pre ≡ new_bench
  pub locks : step new_bench (Lock n f own) ≡ bench_of true n f own
  pub is : run new_bench es ≡ run (bench_of true n f own) post
  pub silent : log_of new_bench [] es ≡ log_of (bench_of true n f own) [] post

again : (e : Event) (es : List Event) → step new_bench e ≡ new_bench → push new_bench e [] ≡ [] → (run new_bench es ≡ new_bench) ⊎ Opened es → (run new_bench (e ∷ es) ≡ new_bench) ⊎ Opened (e ∷ es)
unfolding run log_of
again e es q z (inl p) = inl (ap (λ (b : Bench). run b es) q ∙ p)
again e es q z (inr o) = inr (record {
  n = o.n;
  f = o.f;
  own = o.own;
  pre = e ∷ o.pre;
  post = o.post;
  parts = ap (λ (l : List Event). e ∷ l) o.parts;
  sized = o.sized;
  idle = ap (λ (b : Bench). run b o.pre) q ∙ o.idle;
  locks = o.locks;
  is = ap (λ (b : Bench). run b es) q ∙ o.is;
  silent = ap (λ (b : Bench). log_of b (push new_bench e []) es) q ∙ ap (λ (l : List Event). log_of new_bench l es) z ∙ o.silent;
})

locked-first : (n f : ℕ) (own : Bool) (es : List Event) → is_accepted (reply new_bench (Lock n f own)) ≡ true → Opened (Lock n f own ∷ es)
unfolding run log_of
locked-first n f own es q = record {
  n = n;
  f = f;
  own = own;
  pre = [];
  post = es;
  parts = refl;
  sized = unfold reply first_no in ask_l _ _ _ q;
  idle = refl;
  locks = taken;
  is = ap (λ (b : Bench). run b es) taken;
  silent = ap (λ (b : Bench). log_of b (push new_bench (Lock n f own) []) es) taken ∙ (unfold push entered in rw q);
}
  where
    taken : step new_bench (Lock n f own) ≡ bench_of true n f own
    taken = unfold step perform in rw q

-- before the lock every other event is refused
pub new-lock : (e : Event) → is_accepted (reply new_bench e) ≡ true → IsLock e
new-lock e q = elim (locks-or_locked new_bench e q) [ inl l ↦ l | inr h ↦ absurd (false≢true (unfold bench_of in h)) ]

pub new_refuses : (e : Event) → concerns_one e ≡ true → is_accepted (reply new_bench e) ≡ true → ⊥
new_refuses e c q = false≢true (ap concerns_one (sym (new-lock e q).is) ∙ c)

pub start : (es : List Event) → (run new_bench es ≡ new_bench) ⊎ Opened es
start [] = unfold run in inl refl
start (e ∷ es) = elim (split (is_accepted (reply new_bench e))) [
  | inl q ↦ let l : IsLock e = new-lock e q in inr (subst (λ (x : Event). Opened (x ∷ es)) (sym l.is) (locked-first l.n l.f l.own es (rw l.is at q)))
  | inr q ↦ again e es (refused-step new_bench e q) (unfold push in rw q) (start es)
]

-- the stations of a bench on which nothing has happened
pub record Fresh (s : Station) : Type 0 where
  pub sent : s.sent ≡ unsent_all
  pub ctl : Blank s.controller
  pub saved : s.saved ≡ None
  pub position : s.controller.gate.position ≡ 0

fresh-is : (l : List VoteSet) → Fresh (fresh_station l)
unfolding fresh_station fresh
fresh-is l = record { sent = refl; ctl = record { votes = refl; phase = refl; acks-none = refl; helps-none = refl; helped = refl; cnt-none = refl; cnt-help-none = refl; waiting = refl; calls-none = refl; outcome = refl }; saved = refl; position = refl }

pub freshes : (locked : Bool) (n f : ℕ) (own : Bool) (k : ℕ) → Fresh (station (bench_of locked n f own) k)
unfolding station bench_of
freshes locked n f own = all-of_copies Fresh (fresh_station []) (fresh_station (replicate limit empty)) (fresh-is []) (fresh-is (replicate limit empty)) limit

pub never-saved : {X : Type 0} (s : Option Checkpoint) (p : Checkpoint) → s ≡ None → s ≡ Some p → X
never-saved s p e q = let z : ◌≡◌ {A = ℕ} 0 1 = cc in absurd (omega arith)

-- all is in range on it
module _ (G H : ℕ → Type 0) (g0 : G 0) (h0 : H 0) where
  fresh-controller : (l : List VoteSet) → InRange G H g0 (fresh_station l).controller
  unfolding fresh_station fresh
  fresh-controller l = record { low = omega arith; gate = record { target = g0; position = g0 }; help = λ k e. none_has k e }

  pub fresh_in : (locked : Bool) (n f : ℕ) (own : Bool) → AllIn G H g0 n f (view (bench_of locked n f own))
  unfolding view
  fresh_in locked n f own = record {
    order = unfold bench_of in h0;
    ctls = controllers;
    lines = λ k. subst (SentIn G H g0 n f _ k) (sym (freshes locked n f own k).sent) (unsent_in G H g0 n f _ k);
    saved = λ k p e. never-saved _ p (freshes locked n f own k).saved e;
  }
    where
      controllers : (k : ℕ) → InRange G H g0 (controller (bench_of locked n f own) k)
      controllers k = unfold station bench_of in all-of_copies (λ (s : Station). InRange G H g0 s.controller) (fresh_station []) (fresh_station (replicate limit empty)) (fresh-controller []) (fresh-controller (replicate limit empty)) limit k

pub unput : (n f : ℕ) (own : Bool) (k : ℕ) → (controller (bench_of true n f own) k).proposal ≡ None
unfolding station bench_of
unput n f own k = all-of_copies (λ (x : Station). x.controller.proposal ≡ None) (fresh_station []) (fresh_station (replicate limit empty)) (unfold fresh_station fresh in refl) (unfold fresh_station fresh in refl) limit k

lock-balloted : (n f : ℕ) (own : Bool) → Balloted n (view (bench_of true n f own))
unfolding view
lock-balloted n f own = new-balloted n (view (bench_of true n f own)) (unfold view bench_of in refl) (unfold view bench_of in refl) (unfold view bench_of in refl) (unfold view bench_of in refl) (unfold view in unput n f own)

module _ (n f : ℕ) (own : Bool) (sized : sizes_in_range n f ≡ true) where
  abbrev b₀ : Bench
  b₀ = bench_of true n f own

  room : (k : ℕ) → 1 ≤ k → k ≤ limit → length (station b₀ k).controller.acks.sets ≡ limit
  unfolding station bench_of nth
  room k a b = copies limit k a b
    where
      copies : (m k : ℕ) → 1 ≤ k → k ≤ m → length (nth (fresh_station []) (replicate m (fresh_station (replicate limit empty))) k).controller.acks.sets ≡ limit
      copies m zero a b = absurd (omega arith)
      copies zero (suc k) a b = absurd (omega arith)
      copies (suc m) (suc zero) a b = unfold nth fresh_station fresh in refl
      copies (suc m) (suc (suc k)) a b = copies m (suc k) (omega arith) (omega arith)

  pub lock-inv : Inv n f (view b₀)
  unfolding view
  lock-inv = blank-inv n f _ _ _ _ _ (λ k. (freshes true n f own k).sent) nothing.0 nothing.1 nothing.2 (λ k. (freshes true n f own k).ctl)
      (λ k x y. let q : length (station b₀ k).controller.acks.sets ≡ limit = room k x (let s : n ≤ limit = (ranges n f sized).small in omega arith) in let s : n ≤ limit = (ranges n f sized).small in omega arith)
      (λ k. rw (freshes true n f own k).saved (omega arith)) (λ k e. rw (freshes true n f own k).saved) _ _
    where
      nothing : (b₀.shared.consensus.move_proposed ≡ false) × (b₀.shared.consensus.stay_proposed ≡ false) × (b₀.shared.consensus.decision ≡ None)
      nothing = unfold bench_of in (refl, refl, refl)

  pub lock-sound : Sound b₀
  unfolding bench_of
  lock-sound = record { locked = refl; size = refl; sized = sized; inv = lock-inv; ranged = fresh_in Any Any tt tt true n f own; balloted = lock-balloted n f own }

  unsent_by : (k : ℕ) → (voted_by k unsent_all ≡ false) × (acked_by k unsent_all ≡ false)
  unfolding unsent_all
  unsent_by k = (has-none k, has-none k)

  pub lock_good : (f<n : f < n) → Good n f f<n (view b₀) []
  unfolding view
  lock_good f<n = blank_good n f f<n _ (λ k. (freshes true n f own k).ctl) (λ k. ap (acked_by k) (freshes true n f own k).sent ∙ (unsent_by k).1)

  pub lock-unvoted : (k : ℕ) → voted_by k ((view b₀).state.sent k) ≡ false
  unfolding view
  lock-unvoted k = ap (voted_by k) (freshes true n f own k).sent ∙ (unsent_by k).0

-- a new bench holds no outcome, and its first accepted event moves no gate
pub new-holds : (k : ℕ) → shown_outcome new_bench k ≡ None
new-holds k = (freshes false 0 0 false k).ctl.outcome

pub new-still : (e : Event) (k : ℕ) → shown_position (step new_bench e) k ≡ shown_position new_bench k
unfolding step
new-still e k = by_cond (λ (b : Bench). shown_position b k ≡ shown_position new_bench k) (is_accepted (reply new_bench e)) (perform new_bench e) new_bench (λ q. let l : IsLock e = new-lock e q in rw l.is (locked l.n l.f l.own)) (λ q. refl)
  where
    locked : (n f : ℕ) (own : Bool) → shown_position (perform new_bench (Lock n f own)) k ≡ shown_position new_bench k
    locked n f own = unfold perform in (freshes true n f own k).position ∙ sym (freshes false 0 0 false k).position
