-- The claim is not hollow: clean orders exist (Schedule, Run), and demand 3 gives their outcomes. No run is computed.
use Prim.Native.Nat.{ℕ, zero, suc, ◌≤◌, ◌<◌}
use mathlib.Core.Path.{◌≡◌, refl, sym, ◌∙◌, ap, subst, subst₂}
use mathlib.Core.Bool.{Bool, true, false}
use mathlib.Core.List.{List, [], ◌∷◌, ◌++◌}
use native.Mathlib.Omega.{arith}
use native.Mathlib.Decide.{ℕ_discrete}
use borrow.Author.Tests.{ne_eqb}
use Rattle.ground.specs.Update.{upd_other}
use Rattle.model.specs.Ranges.{sizes_in_range}
use Rattle.model.specs.RangeLaws.{ranges}
use Rattle.model.specs.Numbers.{is_none}
use Rattle.model.specs.declared.Outcome.{Outcome}
use Rattle.model.specs.declared.Outcome.TheVariants.{Stay, Move}
use Rattle.model.specs.declared.Event.{Event}
use Rattle.model.specs.declared.Event.TheVariants.{Cast, Timeout}
use Rattle.protocol.specs.declared.Bench.{Bench}
use Rattle.protocol.specs.Controllers.{outcome}
use Rattle.protocol.specs.Benches.{new_bench, controller}
use Rattle.protocol.specs.Display.{shown_outcome}
use Rattle.protocol.specs.Claim.{after, Accepted, InOrder, Holds, IsSecondTimeout, Clean, AllWilling, OneUnwilling}
use Rattle.protocol.specs.CleanOrders.{timeouts, all_ended, from_lock, clean_order}
use Rattle.protocol.specs.NotHollow.{CleanList, MoveList, StayList, EndedList, NotHollow}
use Rattle.protocol.proofs.view.View.{View}
use Rattle.protocol.proofs.view.Performed.{commit_v, perform_v}
use Rattle.protocol.proofs.view.Simulation.{view}
use Rattle.protocol.proofs.clean.Log.{In, Second}
use Rattle.protocol.proofs.clean.Log as steps
use Rattle.protocol.proofs.clean.Steps.{log-second}
use Rattle.protocol.proofs.lists.Moments.{run-append, run-one, in_order, in-log}
use Rattle.protocol.proofs.clean.Back.{clean-order}
use Rattle.protocol.proofs.clean.Schedule.{ending, ending-second, ending-clean, next-clean, ending-cast, ending_as}
use Rattle.protocol.proofs.clean.Reached.{Reached, log-one, one_later, answers, performs}
use Rattle.protocol.proofs.clean.Run.{end_phase, end-all, end-accepts}
use Rattle.protocol.proofs.claim.Theorem.{demand_3}

-- demand 3 at a list of a known n and f
module _ (n f i : ℕ) (l : CleanList n f i) where
  second : IsSecondTimeout (after l.events).shared.n (after l.events).shared.f l.events i
  second = subst₂ (λ x y. IsSecondTimeout x y l.events i) (sym l.lock-n) (sym l.lock-f) l.second

  clean : Clean (after l.events).shared.n (after l.events).shared.f (l.events ++ (Timeout i ∷ []))
  clean = subst₂ (λ x y. Clean x y (l.events ++ (Timeout i ∷ []))) (sym l.lock-n) (sym l.lock-f) l.clean

  move-list : AllWilling l.events → MoveList n f i
  move-list w = record { list = l; willing = w; holds = demand_3.clean-move l.events i l.timeout second clean w }

  stay-list : OneUnwilling l.events → StayList n f i
  stay-list u = record { list = l; unwilling = u; holds = demand_3.clean-stay l.events i l.timeout second clean u }

-- the list in which each controller k votes w k, up to the second timeout of m
module _ (n f : ℕ) (sized : sizes_in_range n f ≡ true) (w : ℕ → Bool) (m : ℕ) (few : m ≤ n) where
  abbrev reached : Reached n f sized (ending n f w m) (end_phase n f sized m)
  reached = end-all n f sized w m few

  abbrev es : List Event
  es = from_lock n f (ending n f w m)

  takes : (i : ℕ) → m < i → i ≤ n → Accepted es (Timeout i)
  takes i lo hi = answers n f sized reached (Timeout i) (end-accepts n f sized w m i few lo hi)

  -- another's second timeout comes next
  clean-list : (i : ℕ) → m < i → i ≤ n → CleanList n f i
  clean-list i lo hi = record {
    events = es;
    lock-n = reached.is-n;
    lock-f = reached.is_f;
    timeout = takes i lo hi;
    second = log-second n f es i (subst (Second n f i) (sym reached.is-log) (ending-second n f w m i (omega arith)));
    clean = clean-order n f (es ++ (Timeout i ∷ [])) (subst (steps.Clean n f) (sym (log-one es (Timeout i) refl (takes i lo hi)))
        (subst (λ (l : List Event). steps.Clean n f (Timeout i ∷ l)) (sym reached.is-log) (next-clean n f w m i)));
  }

  votes_as : (k : ℕ) (x : Bool) (t : ℕ) → InOrder es (Cast k x t) → x ≡ w k
  votes_as k x t u = ending_as n f w m k x t (subst (In (Cast k x t)) reached.is-log (in-log es (Cast k x t) refl u))

  votes_in : (k : ℕ) → 1 ≤ k → k ≤ n → InOrder es (Cast k (w k) 0)
  votes_in k lo hi = in_order es (Cast k (w k) 0) (subst (In (Cast k (w k) 0)) (sym reached.is-log) (ending-cast n f w m k lo hi))

  -- it leaves the outcomes of the rest
  rest-same : (i k : ℕ) → m < i → i ≤ n → (k ≡ i → ⊥) → shown_outcome (after (es ++ (Timeout i ∷ []))) k ≡ shown_outcome (after es) k
  unfolding view perform_v commit_v
  rest-same i k lo hi d = ap (λ (b : Bench). shown_outcome b k) (run-append es (Timeout i ∷ []) new_bench ∙ run-one (Timeout i) (after es))
      ∙ ap (λ (v : View). outcome (v.ctl k)) (performs n f sized reached (Timeout i) (end-accepts n f sized w m i few lo hi))
      ∙ ap outcome (upd_other (λ k. controller (after es) k) i _ k (ne_eqb k i d))

-- all have had it: the order is clean, and each holds what its second timeout gave it
module _ (n f : ℕ) (sized : sizes_in_range n f ≡ true) (w : ℕ → Bool) (x : Outcome) (some : is_none x ≡ false)
    (gives : (m : ℕ) → (h : m < n) → Holds (from_lock n f (ending n f w m) ++ (Timeout (suc m) ∷ [])) (suc m) x) where
  shown : (m : ℕ) → m ≤ n → (k : ℕ) → 1 ≤ k → k ≤ m → shown_outcome (after (from_lock n f (ending n f w m))) k ≡ x
  unfolding timeouts
  shown zero few k lo hi = absurd (omega arith)
  shown (suc m) few k lo hi = ap (λ (l : List Event). shown_outcome (after l) k) (one_later n f sized (ending n f w m) (Timeout (suc m))) ∙ elim (ℕ_discrete k (suc m)) [
    | yes e ↦ rw e (gives m few).shows
    | no e ↦ rest-same n f sized w m (omega arith) (suc m) k (omega arith) few e ∙ shown m (omega arith) k lo (omega arith)
  ]

  ended-list : EndedList n f w x
  unfolding clean_order all_ended
  ended-list = record {
    lock-n = whole.is-n;
    lock-f = whole.is_f;
    end = record {
      clean = subst₂ (λ y z. Clean y z (clean_order n f w)) (sym whole.is-n) (sym whole.is_f) (clean-order n f _ (subst (steps.Clean n f) (sym whole.is-log) (ending-clean n f w n)));
      ended = λ i lo hi. record { outcome = x; holds = record { shows = shown n (omega arith) i lo (let e : (after (clean_order n f w)).shared.n ≡ n = whole.is-n in omega arith); some = some } };
    };
    holds = λ i lo hi. record { shows = shown n (omega arith) i lo hi; some = some };
  }
    where
      whole : Reached n f sized (ending n f w n) (end_phase n f sized n)
      whole = end-all n f sized w n (omega arith)

module _ (n f : ℕ) (sized : sizes_in_range n f ≡ true) where
  all-willing : (m : ℕ) (few : m ≤ n) → AllWilling (from_lock n f (ending n f (λ k. true) m))
  all-willing m few k x t u = votes_as n f sized (λ k. true) m few k x t u

  one-unwilling : (m : ℕ) (few : m ≤ n) (i : ℕ) → 1 ≤ i → i ≤ n → OneUnwilling (from_lock n f (ending n f (λ k. false) m))
  one-unwilling m few i lo hi = record { who = i; target = 0; vote = votes_in n f sized (λ k. false) m few i lo hi }

  move-next : (m : ℕ) (few : m ≤ n) (i : ℕ) → m < i → i ≤ n → MoveList n f i
  unfolding clean-list
  move-next m few i lo hi = move-list n f i (clean-list n f sized (λ k. true) m few i lo hi) (all-willing m few)

  stay-next : (m : ℕ) (few : m ≤ n) (i : ℕ) → m < i → i ≤ n → StayList n f i
  unfolding clean-list
  stay-next m few i lo hi = stay-list n f i (clean-list n f sized (λ k. false) m few i lo hi) (one-unwilling m few i (omega arith) hi)

  move-end : EndedList n f (λ k. true) Move
  unfolding move-next move-list clean-list
  move-end = ended-list n f sized (λ k. true) Move refl (λ m h. (move-next m (omega arith) (suc m) (omega arith) h).holds)

  stay-end : EndedList n f (λ k. false) Stay
  unfolding stay-next stay-list clean-list
  stay-end = ended-list n f sized (λ k. false) Stay refl (λ m h. (stay-next m (omega arith) (suc m) (omega arith) h).holds)

pub not_hollow : NotHollow
unfolding clean_order all_ended
not_hollow = record {
  moves = λ n f i sized lo hi. move-next n f sized 0 (omega arith) i lo hi;
  stays = λ n f i sized lo hi. stay-next n f sized 0 (omega arith) i lo hi;
  ends-move = λ n f sized. record { list = move-end n f sized; willing = all-willing n f sized n (omega arith) };
  ends_stay = λ n f sized. record { list = stay-end n f sized; unwilling = one-unwilling n f sized n (omega arith) 1 (omega arith) (omega (arith, (ranges n f sized).high)) };
}
