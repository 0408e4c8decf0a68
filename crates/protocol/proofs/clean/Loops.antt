-- The loops that a clean order is made of (specs/CleanOrders): what is in their logs. By induction, loop by loop.
use Prim.Native.Nat.{ℕ, zero, suc, ◌≤◌}
use mathlib.Core.Path.{◌≡◌, sym, ◌∙◌, ap}
use mathlib.Core.Bool.{Bool, true}
use mathlib.Core.List.{List, ◌∷◌}
use native.Mathlib.Omega.{arith}
use native.Mathlib.Decide.{ℕ_discrete}
use mathlib.Core.Logic.{inl, inr}
use Rattle.ground.specs.Tests.{no_both, by_cond}
use Rattle.model.specs.Routes.{route}
use Rattle.model.specs.declared.Kind.{Kind}
use Rattle.model.specs.declared.Event.{Event}
use Rattle.model.specs.declared.Event.TheVariants.{Cast, Deliver, Timeout}
use Rattle.protocol.specs.CleanOrders.{casts, timeouts, deliveries_of, deliveries}
use Rattle.protocol.proofs.clean.Log.{In}

pub differ : {X : Type 0} → ◌≡◌ {A = ℕ} 0 1 → X
differ z = absurd (omega arith)

pub cast_in : (w : ℕ → Bool) (m k : ℕ) → 1 ≤ k → k ≤ m → In (Cast k (w k) 0) (casts w m)
unfolding casts
cast_in w zero k a b = absurd (omega arith)
cast_in w (suc m) k a b = elim (ℕ_discrete k (suc m)) [
  | yes q ↦ inl (ap (λ (x : ℕ). Cast x (w x) 0) q)
  | no q ↦ inr (cast_in w m k a (omega arith))
]

pub cast_as : (w : ℕ → Bool) (m k : ℕ) (x : Bool) (t : ℕ) → In (Cast k x t) (casts w m) → x ≡ w k
unfolding casts
cast_as w zero k x t e = absurd e
cast_as w (suc m) k x t (inl q) = let a : k ≡ suc m = cc in let b : x ≡ w (suc m) = cc in b ∙ ap w (sym a)
cast_as w (suc m) k x t (inr e) = cast_as w m k x t e

pub cast-calm : (w : ℕ → Bool) (m k : ℕ) → In (Timeout k) (casts w m) → ⊥
unfolding casts
cast-calm w zero k e = e
cast-calm w (suc m) k (inl q) = let z : ◌≡◌ {A = ℕ} 0 1 = cc in differ z
cast-calm w (suc m) k (inr e) = cast-calm w m k e

pub timeouts_in : (m k : ℕ) (log : List Event) → 1 ≤ k → k ≤ m → In (Timeout k) (timeouts m log)
unfolding timeouts
timeouts_in zero k log a b = absurd (omega arith)
timeouts_in (suc m) k log a b = elim (ℕ_discrete k (suc m)) [
  | yes q ↦ inl (ap Timeout q)
  | no q ↦ inr (timeouts_in m k log a (omega arith))
]

pub timeouts_keep : (e : Event) (m : ℕ) (log : List Event) → In e log → In e (timeouts m log)
unfolding timeouts
timeouts_keep e zero log h = h
timeouts_keep e (suc m) log h = inr (timeouts_keep e m log h)

pub timeouts-back : (e : Event) (m : ℕ) → ((i : ℕ) → e ≡ Timeout i → ⊥) → (log : List Event) → In e (timeouts m log) → In e log
unfolding timeouts
timeouts-back e zero other log h = h
timeouts-back e (suc m) other log (inl q) = absurd (other (suc m) q)
timeouts-back e (suc m) other log (inr h) = timeouts-back e m other log h

pub timeouts-low : (m k : ℕ) (log : List Event) → (In (Timeout k) log → ⊥) → In (Timeout k) (timeouts m log) → k ≤ m
unfolding timeouts
timeouts-low zero k log none e = absurd (none e)
timeouts-low (suc m) k log none (inl q) = let z : k ≡ suc m = cc in omega arith
timeouts-low (suc m) k log none (inr e) = let h : k ≤ m = timeouts-low m k log none e in omega arith

module _ (n f : ℕ) where
  -- what each such delivery keeps, all of them keep
  abbrev pub Kept : Kind → (List Event → Type 0) → Type 0
  Kept kind P = (i j : ℕ) → 1 ≤ i → i ≤ n → 1 ≤ j → j ≤ n → route f kind i j ≡ true → (log : List Event) → P log → P (Deliver i j kind ∷ log)

  row-all : (P : List Event → Type 0) (kind : Kind) → Kept kind P → (i m : ℕ) → 1 ≤ i → i ≤ n → m ≤ n → (log : List Event) → P log → P (deliveries_of n f kind i m log)
  unfolding deliveries_of
  row-all P kind g i zero a b c log h = h
  row-all P kind g i (suc j) a b c log h =
      let ih : P (deliveries_of n f kind i j log) = row-all P kind g i j a b (omega arith) log h in
      by_cond P (route f kind i (suc j)) _ _ (λ e. g i (suc j) a b (omega arith) c e _ ih) (λ e. ih)

  pub rows_all : (P : List Event → Type 0) (kind : Kind) → Kept kind P → (m : ℕ) → m ≤ n → (log : List Event) → P log → P (deliveries n f kind m log)
  unfolding deliveries
  rows_all P kind g zero a log h = h
  rows_all P kind g (suc i) a log h = row-all P kind g (suc i) n (omega arith) a (omega arith) _ (rows_all P kind g i (omega arith) log h)

  pub rows_keep : (e : Event) (kind : Kind) (log : List Event) → In e log → In e (deliveries n f kind n log)
  rows_keep e kind log = rows_all (In e) kind (λ i j a b c d r l m. inr m) n (omega arith) log

  pub rows_back : (e : Event) (kind : Kind) → ((i j : ℕ) → e ≡ Deliver i j kind → ⊥) → (log : List Event) → In e (deliveries n f kind n log) → In e log
  rows_back e kind other log = rows_all (λ l. In e l → In e log) kind (λ i j a b c d r l h m. elim m [ inl q ↦ absurd (other i j q) | inr x ↦ h x ]) n (omega arith) log (λ m. m)

  row_in : (kind : Kind) (i m j : ℕ) (log : List Event) → 1 ≤ j → j ≤ m → route f kind i j ≡ true → In (Deliver i j kind) (deliveries_of n f kind i m log)
  unfolding deliveries_of
  row_in kind i zero j log a b r = absurd (omega arith)
  row_in kind i (suc m) j log a b r = elim (ℕ_discrete j (suc m)) [
    | yes q ↦ by_cond (In (Deliver i j kind)) (route f kind i (suc m)) _ _ (λ e. inl (ap (λ (x : ℕ). Deliver i x kind) q)) (λ e. absurd (no_both _ (rw q at r) e))
    | no q ↦ let ih : In (Deliver i j kind) (deliveries_of n f kind i m log) = row_in kind i m j log a (omega arith) r in by_cond (In (Deliver i j kind)) (route f kind i (suc m)) _ _ (λ e. inr ih) (λ e. ih)
  ]

  pub rows_in : (kind : Kind) (m i j : ℕ) (log : List Event) → m ≤ n → 1 ≤ i → i ≤ m → 1 ≤ j → j ≤ n → route f kind i j ≡ true → In (Deliver i j kind) (deliveries n f kind m log)
  unfolding deliveries
  rows_in kind zero i j log s a b c d r = absurd (omega arith)
  rows_in kind (suc m) i j log s a b c d r = elim (ℕ_discrete i (suc m)) [
    | yes q ↦ rw q (row_in kind (suc m) n j (deliveries n f kind m log) c d (rw q at r))
    | no q ↦ row-all (In (Deliver i j kind)) kind (λ x y a b c d r l m. inr m) (suc m) n (omega arith) s (omega arith) _ (rows_in kind m i j log (omega arith) a (omega arith) c d r)
  ]
