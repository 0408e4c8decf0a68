-- Lists that are read and changed by controller number, counted from 1.
use Prim.Native.Nat.{ℕ, zero, suc, ◌-◌, ◌≤◌, ◌<◌}
use Rattle.std.specs.Prelude.{◌≡◌, List, [], ◌∷◌, map, get_or, set, length}
use Rattle.std.proofs.Math.Path.{refl}
use Rattle.std.proofs.Common.{sym, length-set, get_or-set_same, get_or-set_other}
use native.Mathlib.Omega.{arith}
use Rattle.std.proofs.Math.Decide.{ℕ_discrete}
use Rattle.std.proofs.Math.ListN.{get_or-eq_default}
use borrow.Author.Tests.{ne_eqb, eq-eqb}
use Rattle.ground.specs.Update.{upd, fun_ext}

-- element k of a list, counted from 1; and the list with another element there
unfoldable pub nth : {A : Type 0} → A → List A → ℕ → A
nth d l zero = d
nth d l (suc k) = get_or l k d

unfoldable pub put : {A : Type 0} → List A → ℕ → A → List A
put l k a = set l (k - 1) a

module _ {A : Type 0} (d : A) where
  -- as the code reads it
  pub nth-at : (l : List A) (k : ℕ) → 1 ≤ k → nth d l k ≡ get_or l (k - 1) d
  unfolding nth
  nth-at l zero h = absurd (omega arith)
  nth-at l (suc k) h = let e : suc k - 1 ≡ k = omega arith in rw e

  -- past the end
  pub nth_past : (l : List A) (k : ℕ) → length l < k → nth d l k ≡ d
  unfolding nth
  nth_past l zero h = refl
  nth_past l (suc k) h = get_or-eq_default l d (omega arith)

  -- a list with another element at i, read at k
  pub nth-put-at : (l : List A) (i : ℕ) (a : A) → 1 ≤ i → i ≤ length l → (k : ℕ) → nth d (put l i a) k ≡ upd (nth d l) i a k
  unfolding nth put upd
  nth-put-at l i a x y zero = rw (ne_eqb 0 i (λ e. omega arith))
  nth-put-at l i a x y (suc k) = elim (ℕ_discrete (suc k) i) [
    | yes e ↦ let e' : i - 1 ≡ k = omega arith in rw (e', eq-eqb (suc k) i e) (get_or-set_same l k a d (omega arith))
    | no e ↦ rw (ne_eqb (suc k) i e) (get_or-set_other l (i - 1) k a d (λ q. e (omega arith)))
  ]

  -- the same as functions of the number
  pub nth-put : (l : List A) (i : ℕ) (a : A) → 1 ≤ i → i ≤ length l → nth d (put l i a) ≡ upd (nth d l) i a
  nth-put l i a x y = fun_ext (nth d (put l i a)) (upd (nth d l) i a) (nth-put-at l i a x y)

-- the list keeps its length
pub length-put : {A : Type 0} (l : List A) (i : ℕ) (a : A) → length (put l i a) ≡ length l
unfolding put
length-put l i a = length-set l (i - 1) a

-- a list with each element changed, read at k; past its end stands e, what becomes of d
pub map_at : {A B : Type 0} (g : A → B) (d : A) {e : B} → g d ≡ e → (l : List A) (k : ℕ) → nth e (map g l) k ≡ g (nth d l k)
unfolding nth
map_at g d q l zero = sym q
map_at g d q [] (suc k) = sym q
map_at g d q (x ∷ l) (suc zero) = refl
map_at g d q (x ∷ l) (suc (suc k)) = map_at g d q l (suc k)
