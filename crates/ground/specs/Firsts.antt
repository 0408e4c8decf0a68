-- A list with its first elements changed, as a loop with one store a turn makes it.
use Rattle.std.specs.Prelude.{ℕ, zero, suc, ◌+◌, ◌≤◌, ◌<◌, min, ◌≡◌, refl, List, [], ◌∷◌, ◌++◌, map, length, get_or, set, take, drop}
use Rattle.std.proofs.Common.{ap, arith, add-one}

-- a list with its first n elements changed
abbrev pub map_first : {A : Type 0} → (A → A) → ℕ → List A → List A
map_first g n l = map g (take n l) ++ drop n l

module _ {A : Type 0} (g : A → A) where
  pub first-none : (l : List A) → l ≡ map_first g 0 l
  first-none l = refl

  more : (i : ℕ) (l : List A) (d : A) → i < length l → set (map_first g i l) i (g (get_or (map_first g i l) i d)) ≡ map_first g (suc i) l
  more zero [] d h = absurd (omega arith)
  more zero (x ∷ l) d h = refl
  more (suc i) [] d h = refl
  more (suc i) (x ∷ l) d h = ap (λ (t : List A). g x ∷ t) (more i l d (omega arith))

  pub first_more : (i : ℕ) (l : List A) (d : A) → i < length l → set (map_first g i l) i (g (get_or (map_first g i l) i d)) ≡ map_first g (i + 1) l
  first_more i l d h = rw add-one (more i l d h)

  pub first-map : (i : ℕ) (l : List A) → length l ≤ i → map_first g i l ≡ map g l
  first-map zero [] h = refl
  first-map zero (x ∷ l) h = absurd (omega arith)
  first-map (suc i) [] h = refl
  first-map (suc i) (x ∷ l) h = ap (λ (t : List A). g x ∷ t) (first-map i l (omega arith))

  -- as many as there are
  pub first-all : (n i : ℕ) (l : List A) → i ≡ min n (length l) → map_first g i l ≡ map_first g n l
  first-all zero zero l e = refl
  first-all zero (suc i) l e = absurd (omega arith)
  first-all (suc n) zero [] e = refl
  first-all (suc n) (suc i) [] e = refl
  first-all (suc n) zero (x ∷ l) e = absurd (omega arith)
  first-all (suc n) (suc i) (x ∷ l) e = ap (λ (t : List A). g x ∷ t) (first-all n i l (omega arith))

  -- where the others are such that the change leaves them, all are changed
  pub first-enough : (d : A) → g d ≡ d → (n : ℕ) (l : List A) → ((i : ℕ) → n ≤ i → get_or l i d ≡ d) → map_first g n l ≡ map g l
  first-enough d q zero [] h = refl
  first-enough d q zero (x ∷ l) h = let e : x ≡ d = h 0 (omega arith) in rw (e, q) (ap (λ (t : List A). d ∷ t) (first-enough d q zero l (λ i k. h (suc i) (omega arith))))
  first-enough d q (suc n) [] h = refl
  first-enough d q (suc n) (x ∷ l) h = ap (λ (t : List A). g x ∷ t) (first-enough d q n l (λ i k. h (suc i) (omega arith)))
