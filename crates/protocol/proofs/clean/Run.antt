-- The bench is brought through a whole clean order: every event of it is accepted. From one moment to the next (Reached), along the loops of the order.
use Prim.Native.Nat.{ℕ, zero, suc, ◌≤◌, ◌<◌}
use mathlib.Core.Path.{◌≡◌, refl, sym, ◌∙◌}
use mathlib.Core.Bool.{Bool, true, false, cond}
use native.Mathlib.Omega.{arith}
use lib.Dec.{leb}
use borrow.Author.Tests.{lt-leb, leb-true, le-leb}
use Rattle.ground.specs.Tests.{same_test}
use Rattle.model.specs.Ranges.{sizes_in_range}
use Rattle.model.specs.RangeLaws.{ranges}
use Rattle.model.specs.declared.Kind.TheVariants.{Vote, Ack}
use Rattle.model.specs.declared.Event.TheVariants.{Timeout}
use Rattle.protocol.specs.Claim.{after}
use Rattle.protocol.specs.CleanOrders.{casts, timeouts, all_voted, all_acked, from_lock}
use Rattle.protocol.proofs.view.View.{accepts}
use Rattle.protocol.proofs.view.Simulation.{view}
use Rattle.protocol.proofs.clean.Ready.{begun, timeout-accepted}
use Rattle.protocol.proofs.clean.Reached.{Reached, cast-next, timeout-next, end-next, renamed, deliver-all, start}

-- x up to m, y beyond
abbrev up_to : ℕ → (ℕ → ℕ) → (ℕ → ℕ) → ℕ → ℕ
up_to m x y k = cond (leb k m) (x k) (y k)

low-is : (m k : ℕ) (x y : ℕ → ℕ) → k ≤ m → up_to m x y k ≡ x k
low-is m k x y h = rw (le-leb k m h)

high_is : (m k : ℕ) (x y : ℕ → ℕ) → m < k → up_to m x y k ≡ y k
high_is m k x y h = rw (lt-leb k m h)

one_up : (m k : ℕ) (x y : ℕ → ℕ) → (k ≡ suc m → ⊥) → up_to (suc m) x y k ≡ up_to m x y k
one_up m k x y d = rw (same_test (leb k (suc m)) (leb k m) (λ e. le-leb k m (let h : k ≤ suc m = leb-true k (suc m) e in omega arith)) (λ e. le-leb k (suc m) (let h : k ≤ m = leb-true k m e in omega arith)))

module _ (n f : ℕ) (sized : sizes_in_range n f ≡ true) where
  abbrev casting : ℕ → ℕ → ℕ
  casting m = up_to m (begun f) (λ k. 0)

  abbrev timeout_phase : ℕ → ℕ → ℕ
  timeout_phase m = up_to m (λ k. 2) (begun f)

  cast-all : (w : ℕ → Bool) (m : ℕ) → m ≤ n → Reached n f sized (casts w m) (casting m)
  unfolding casts
  cast-all w zero h = renamed n f sized (start n f sized) (casting 0) (λ k lo hi. high_is 0 k (begun f) (λ x. 0) lo)
  cast-all w (suc m) h = cast-next n f sized (cast-all w m (omega arith)) (casting (suc m)) (suc m) (w (suc m)) (omega arith) h
      (high_is m (suc m) (begun f) (λ x. 0) (omega arith)) (low-is (suc m) (suc m) (begun f) (λ x. 0) (omega arith)) (λ k d. one_up m k (begun f) (λ x. 0) d)

  begun-one : (k : ℕ) → k ≤ suc f → begun f k ≡ 1
  begun-one k h = rw (le-leb k (suc f) h)

  vote-all : (w : ℕ → Bool) → Reached n f sized (all_voted n f w) (timeout_phase 0)
  unfolding all_voted
  vote-all w = renamed n f sized (deliver-all n f sized Vote (casts w n) (casting n) (λ i lo hi. rw (le-leb i n hi) (sent (leb i (suc f)))) (cast-all w n (omega arith))) (timeout_phase 0)
      (λ k lo hi. high_is 0 k (λ x. 2) (begun f) lo ∙ sym (low-is n k (begun f) (λ x. 0) hi))
    where
      sent : (t : Bool) → leb 1 (cond t 1 2) ≡ true
      sent true = refl
      sent false = refl

  timeouts-all : (w : ℕ → Bool) (m : ℕ) → m ≤ suc f → Reached n f sized (timeouts m (all_voted n f w)) (timeout_phase m)
  unfolding timeouts
  timeouts-all w zero h = vote-all w
  timeouts-all w (suc m) h = timeout-next n f sized (timeouts-all w m (omega arith)) (timeout_phase (suc m)) (suc m) (omega arith) (let z : f < n = (ranges n f sized).high in omega arith)
      (high_is m (suc m) (λ x. 2) (begun f) (omega arith) ∙ begun-one (suc m) h) (low-is (suc m) (suc m) (λ x. 2) (begun f) (omega arith)) (λ k d. one_up m k (λ x. 2) (begun f) d)

  -- all are in phase 2 then
  both-two : (k : ℕ) → ◌≡◌ {A = ℕ} 2 (timeout_phase (suc f) k)
  both-two k = same (leb k (suc f))
    where
      same : (t : Bool) → ◌≡◌ {A = ℕ} 2 (cond t 2 (cond t 1 2))
      same true = refl
      same false = refl

  ack-all : (w : ℕ → Bool) → Reached n f sized (all_acked n f w) (λ k. 2)
  unfolding all_acked
  ack-all w = deliver-all n f sized Ack _ (λ k. 2) (λ i lo hi. refl) (renamed n f sized (timeouts-all w (suc f) (omega arith)) (λ k. 2) (λ k lo hi. both-two k))

  -- 1 to m have had their second timeout
  abbrev pub end_phase : ℕ → ℕ → ℕ
  end_phase m = up_to m (λ k. 3) (λ k. 2)

  pub end-all : (w : ℕ → Bool) (m : ℕ) → m ≤ n → Reached n f sized (timeouts m (all_acked n f w)) (end_phase m)
  unfolding timeouts
  end-all w zero h = renamed n f sized (ack-all w) (end_phase 0) (λ k lo hi. high_is 0 k (λ x. 3) (λ x. 2) lo)
  end-all w (suc m) h = end-next n f sized (end-all w m (omega arith)) (end_phase (suc m)) (suc m) (omega arith) h
      (high_is m (suc m) (λ x. 3) (λ x. 2) (omega arith)) (low-is (suc m) (suc m) (λ x. 3) (λ x. 2) (omega arith)) (λ k d. one_up m k (λ x. 3) (λ x. 2) d)

  -- the timeout of another is accepted then
  pub end-accepts : (w : ℕ → Bool) (m i : ℕ) (h : m ≤ n) → m < i → i ≤ n → accepts n f (view (after (from_lock n f (timeouts m (all_acked n f w))))) (Timeout i) ≡ true
  end-accepts w m i h lo hi = timeout-accepted n f _ (end_phase m) (end-all w m h).going i (omega arith) hi (rw (high_is m i (λ x. 3) (λ x. 2) lo))
