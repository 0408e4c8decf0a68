-- Laws of the sequence of messages in a ballot: who all others are, and the k-th of one alone.
use Prim.Native.Nat.{ℕ, zero, suc, ◌-◌, ◌≤◌, ◌<◌}
use mathlib.Core.Path.{◌≡◌, refl, sym, ◌∙◌, ap}
use mathlib.Core.Bool.{Bool, true, false, not, ◌&&◌}
use mathlib.Core.List.{List, [], ◌∷◌, ◌++◌, map}
use native.Mathlib.Omega.{arith}
use native.Mathlib.Decide.{ℕ_discrete}
use lib.Bits.{and_self}
use lib.Dec.{eqb}
use lib.ListN.{length, take, drop, get_or}
use borrow.Author.Tests.{eq-eqb, ne_eqb, le-leb}
use Rattle.ground.specs.Mask.{has, remove, up_to}
use Rattle.ground.proofs.UpTo.{collect-same, has-up-to, others_are}
use Rattle.model.specs.declared.BallotMessage.{BallotMessage}
use Rattle.protocol.specs.BallotCalls.{others}
use Rattle.std.specs.Prelude.{Some, None, slice_get}

turned : (i k : ℕ) → eqb i k ≡ eqb k i
turned i k = elim (ℕ_discrete i k) [
  | yes e ↦ rw (eq-eqb i k e, eq-eqb k i (sym e))
  | no e ↦ rw (ne_eqb i k e, ne_eqb k i (λ q. e (sym q)))
]

-- as the code computes them
pub others-of : (n i : ℕ) → remove (up_to n) i ≡ others n i
unfolding others
others-of n i =
    ap (λ (m : ℕ). remove m i) (sym (and_self (up_to n))) ∙ others_are n (up_to n) i
    ∙ collect-same n (λ k. not (eqb i k) && has (up_to n) k) (λ k. not (eqb k i)) (λ k a w l. rw (has-up-to n k a w, le-leb k n l, turned i k) (with-true (not (eqb k i))))
  where
    with-true : (x : Bool) → (x && true) ≡ x
    with-true true = refl
    with-true false = refl

-- of one alone
pub nth_only : {A : Type 0} (m : A) (k : ℕ) → k ≡ 0 → Some m ≡ slice_get (m ∷ []) k
nth_only m zero e = refl
nth_only m (suc k) e = absurd (omega arith)

pub nth-none : {A : Type 0} (m : A) (k : ℕ) → (k ≡ 0 → ⊥) → None ≡ slice_get (m ∷ []) k
nth-none m zero e = absurd (e refl)
nth-none m (suc k) e = refl
