-- Kinds 1 and 2 together are at most 2fn messages in any order: by the invariant what was sent lies within the routes, and these are counted, controller
-- by controller.
use Prim.Native.Nat.{ℕ, zero, suc, ◌+◌, ◌*◌, ◌≤◌, ◌<◌}
use mathlib.Core.Path.{◌≡◌, sym, ◌∙◌}
use mathlib.Core.Bool.{Bool, true, false, not, ◌&&◌}
use native.Mathlib.Omega.{arith}
use native.Mathlib.Decide.{dec_le, ℕ_discrete}
use native.Mathlib.Nat.{mul_comm, suc-mul}
use lib.Dec.{eqb, leb}
use mathlib.Core.Logic.{inl, inr}
use borrow.Author.Tests.{leb-true, eqb-true}
use Rattle.ground.specs.Tests.{split, and_l, and_r, or-e, eqb_same}
use Rattle.ground.specs.Quantify.{count_to, count_le}
use Rattle.ground.specs.Mask.{has}
use Rattle.ground.specs.Update.{upd, upd_other}
use Rattle.ground.proofs.Sizes.{count-new, count_mono}
use Rattle.model.specs.Routes.{vote_route, ack_route}
use Rattle.model.specs.declared.Kind.TheVariants.{Vote, Ack}
use Rattle.protocol.specs.declared.Bench.{Bench}
use Rattle.protocol.specs.Benches.{sent_by}
use Rattle.protocol.specs.Display.{sum_to, sent_count, message_count}
use Rattle.protocol.proofs.invariant.Invariant.{Inv}
use Rattle.protocol.proofs.view.Simulation.{view}
use Rattle.protocol.proofs.clean.Parts.{route-low}

-- none above k, so at most k
count-below : (m k : ℕ) (p : ℕ → Bool) → ((j : ℕ) → p j ≡ true → j ≤ k) → count_to m p ≤ k
unfolding count_to
count-below zero k p h = omega arith
count-below (suc m) k p h = elim (split (p (suc m))) [
  | inl e ↦ let x : suc m ≤ k = h (suc m) e in let y : count_to m p ≤ m = count_le m p in rw e (omega arith)
  | inr e ↦ let y : count_to m p ≤ k = count-below m k p h in rw e (omega arith)
]

-- none above k and not i: at most k - 1
count-other : (m k i : ℕ) (p : ℕ → Bool) → 1 ≤ i → i ≤ m → i ≤ k → p i ≡ false → ((j : ℕ) → p j ≡ true → j ≤ k) → suc (count_to m p) ≤ k
count-other m k i p a b c e h =
    let s : count_to m (upd p i true) ≡ suc (count_to m p) = count-new m p i a b e in
    let t : count_to m (upd p i true) ≤ k = count-below m k (upd p i true) (λ j x. elim (split (eqb j i)) [
      | inl q ↦ rw (eqb-true j i q) c
      | inr q ↦ h j (sym (upd_other p i true j q) ∙ x)
    ]) in omega arith

module _ (n f : ℕ) where
  pub vote_self : (i : ℕ) → vote_route f i i ≡ false
  unfolding vote_route
  vote_self i = rw (eqb_same i)

  pub ack_self : (i : ℕ) → ack_route f i i ≡ false
  unfolding ack_route
  ack_self i = rw (eqb_same i)

  vote-high : (i j : ℕ) → f < i → vote_route f i j ≡ true → j ≤ f
  unfolding vote_route
  vote-high i j l e = elim (or-e (leb j f) (leb i f && eqb j (suc f)) (and_r (not (eqb i j)) _ e)) [
    | inl q ↦ leb-true j f q
    | inr q ↦ let h : i ≤ f = leb-true i f (and_l (leb i f) _ q) in absurd (omega arith)
  ]

  ack-high : (i j : ℕ) → f < i → ack_route f i j ≡ true → (i ≡ suc f) × (j ≤ f)
  unfolding ack_route
  ack-high i j l e = elim (or-e (leb i f) (eqb i (suc f) && leb j f) (and_r (not (eqb i j)) _ e)) [
    | inl q ↦ let h : i ≤ f = leb-true i f q in absurd (omega arith)
    | inr q ↦ (eqb-true i (suc f) (and_l (eqb i (suc f)) _ q), leb-true j f (and_r (eqb i (suc f)) _ q))
  ]

  votes-one : (i : ℕ) → 1 ≤ i → i ≤ n → count_to n (vote_route f i) ≤ f
  votes-one i a b = elim (dec_le i f) [
    | yes h ↦ let x : suc (count_to n (vote_route f i)) ≤ suc f = count-other n (suc f) i (vote_route f i) a b (omega arith) (vote_self i) (route-low n f i) in omega arith
    | no h ↦ count-below n f (vote_route f i) (λ j. vote-high i j (omega arith))
  ]

  acks-one : (i : ℕ) → 1 ≤ i → i ≤ f → f < n → suc (count_to n (ack_route f i)) ≤ n
  acks-one i a b l =
      let s : count_to n (upd (ack_route f i) i true) ≡ suc (count_to n (ack_route f i)) = count-new n (ack_route f i) i a (omega arith) (ack_self i) in
      let t : count_to n (upd (ack_route f i) i true) ≤ n = count_le n (upd (ack_route f i) i true) in omega arith

  acks-second : count_to n (ack_route f (suc f)) ≤ f
  acks-second = count-below n f (ack_route f (suc f)) (λ j e. (ack-high (suc f) j (omega arith) e).1)

  acks-none : (i : ℕ) → suc f < i → count_to n (ack_route f i) ≤ 0
  acks-none i h = count-below n 0 (ack_route f i) (λ j e. let q : i ≡ suc f = (ack-high i j (omega arith) e).0 in absurd (omega arith))

  -- sums
  votes-sum : (g : ℕ → ℕ) → ((i : ℕ) → g i ≤ count_to n (vote_route f i)) → (m : ℕ) → m ≤ n → sum_to m g ≤ m * f
  unfolding sum_to
  votes-sum g h zero b = omega arith
  votes-sum g h (suc m) b =
      let x : g (suc m) ≤ count_to n (vote_route f (suc m)) = h (suc m) in
      let y : count_to n (vote_route f (suc m)) ≤ f = votes-one (suc m) (omega arith) b in
      let z : sum_to m g ≤ m * f = votes-sum g h m (omega arith) in rw suc-mul (omega arith)

  acks-low : f < n → (g : ℕ → ℕ) → ((i : ℕ) → g i ≤ count_to n (ack_route f i)) → (m : ℕ) → m ≤ f → sum_to m g + m ≤ m * n
  unfolding sum_to
  acks-low l g h zero b = omega arith
  acks-low l g h (suc m) b =
      let x : g (suc m) ≤ count_to n (ack_route f (suc m)) = h (suc m) in
      let y : suc (count_to n (ack_route f (suc m))) ≤ n = acks-one (suc m) (omega arith) b l in
      let z : sum_to m g + m ≤ m * n = acks-low l g h m (omega arith) in rw suc-mul (omega arith)

  acks-sum : f < n → (g : ℕ → ℕ) → ((i : ℕ) → g i ≤ count_to n (ack_route f i)) → (m : ℕ) → f < m → sum_to m g ≤ f * n
  unfolding sum_to
  acks-sum l g h zero b = absurd (omega arith)
  acks-sum l g h (suc m) b = let x : g (suc m) ≤ count_to n (ack_route f (suc m)) = h (suc m) in elim (ℕ_discrete m f) [
    | yes e ↦ let y : count_to n (ack_route f (suc f)) ≤ f = acks-second in
        let z : sum_to f g + f ≤ f * n = acks-low l g h f (omega arith) in
        let x' : g (suc f) ≤ count_to n (ack_route f (suc f)) = h (suc f) in rw e (omega arith)
    | no e ↦ let y : count_to n (ack_route f (suc m)) ≤ 0 = acks-none (suc m) (omega arith) in
        let z : sum_to m g ≤ f * n = acks-sum l g h m (omega arith) in omega arith
  ]

pub sent_bound : (b : Bench) → b.shared.f < b.shared.n → Inv b.shared.n b.shared.f (view b) → message_count b Vote + message_count b Ack ≤ 2 * (b.shared.f * b.shared.n)
unfolding message_count sent_count view
sent_bound b l inv =
    let x : sum_to b.shared.n (λ i. count_to b.shared.n (has (sent_by b i).vote.to)) ≤ b.shared.n * b.shared.f = votes-sum b.shared.n b.shared.f _ (λ i. count_mono b.shared.n (has (sent_by b i).vote.to) (vote_route b.shared.f i) (λ j e. ((inv.lines i).vote-to j e).1)) b.shared.n (omega arith) in
    let y : sum_to b.shared.n (λ i. count_to b.shared.n (has (sent_by b i).ack.to)) ≤ b.shared.f * b.shared.n = acks-sum b.shared.n b.shared.f l _ (λ i. count_mono b.shared.n (has (sent_by b i).ack.to) (ack_route b.shared.f i) (λ j e. ((inv.lines i).ack-to j e).1)) b.shared.n l in
    let z : b.shared.n * b.shared.f ≡ b.shared.f * b.shared.n = mul_comm b.shared.n b.shared.f in omega arith
