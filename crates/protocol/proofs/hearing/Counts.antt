-- Counts of those who pass a test, of those who do not, and of those who pass one of two. By induction on how many are counted.
use Prim.Native.Nat.{ℕ, zero, suc, ◌+◌, ◌≤◌, ◌<◌}
use mathlib.Core.Path.{◌≡◌, refl}
use mathlib.Core.Bool.{Bool, true, false, not}
use native.Mathlib.Omega.{arith}
use native.Mathlib.Decide.{ℕ_discrete}
use mathlib.Core.Logic.{◌⊎◌, inl, inr}
use Rattle.ground.specs.Tests.{split}
use Rattle.ground.specs.Quantify.{count_to}
use Rattle.ground.proofs.Sizes.{all-count}

-- where each of 1..m that passes p passes q or r, no more pass p than q and r together
pub count_cover : (m : ℕ) (p q r : ℕ → Bool) → ((k : ℕ) → 1 ≤ k → k ≤ m → p k ≡ true → (q k ≡ true) ⊎ (r k ≡ true)) → count_to m p ≤ count_to m q + count_to m r
unfolding count_to
count_cover zero p q r h = omega arith
count_cover (suc m) p q r h =
    let ih : count_to m p ≤ count_to m q + count_to m r = count_cover m p q r (λ k a b. h k a (omega arith)) in
    elim (split (p (suc m))) [
      | inr e ↦ rw e (omega arith)
      | inl e ↦ elim (h (suc m) (omega arith) (omega arith) e) [
        | inl x ↦ rw (e, x) (omega arith)
        | inr x ↦ rw (e, x) (omega arith)
      ]
    ]

-- those who pass and those who do not are m
pub count_both : (m : ℕ) (p : ℕ → Bool) → count_to m p + count_to m (λ k. not (p k)) ≡ m
unfolding count_to
count_both zero p = refl
count_both (suc m) p =
    let ih : count_to m p + count_to m (λ k. not (p k)) ≡ m = count_both m p in
    elim (split (p (suc m))) [
      | inl e ↦ rw e (omega arith)
      | inr e ↦ rw e (omega arith)
    ]

-- where those of 1..f pass and no other of 1..m does, f pass
pub count-first : (m f : ℕ) (p : ℕ → Bool) → f ≤ m → ((k : ℕ) → 1 ≤ k → k ≤ f → p k ≡ true) → ((k : ℕ) → f < k → k ≤ m → p k ≡ false) → count_to m p ≡ f
unfolding count_to
count-first zero f p h a b = omega arith
count-first (suc m) f p h a b = elim (ℕ_discrete f (suc m)) [
  | yes q ↦ rw (a (suc m) (omega arith) (omega arith), all-count m p (λ k x y. a k x (omega arith))) (omega arith)
  | no q ↦ let ih : count_to m p ≡ f = count-first m f p (omega arith) a (λ k x y. b k x (omega arith)) in rw (b (suc m) (omega arith) (omega arith)) (omega arith)
]
