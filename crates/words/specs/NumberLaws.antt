-- Laws of numbers and names in words: digit by digit, name by name; and what is written is read back.
use Rattle.std.specs.Prelude.{ℕ, zero, suc, ◌+◌, ◌*◌, ◌-◌, ◌/◌, ◌%◌, ◌^◌, ◌≤◌, ◌<◌, ◌≡◌, true, false, ◌&&◌, Option, Some, None, eqb, ltb, length, drop, get_or, bytes_eq}
use Rattle.std.proofs.Math.Path.{refl}
use Rattle.std.proofs.Common.{sym, ◌∙◌, ap, arith, drop_of_length-le, length-append, drop-cons}
use mathlib.Core.List.{List, [], ◌∷◌, ◌++◌}
use Rattle.std.proofs.Math.Logic.{inl, inr}
use Rattle.std.proofs.Math.Numerals.{add-one}
use borrow.Author.Tests.{le-leb, lt-leb, leb-true, leb-false, ltb-true, eq-eqb, ne_eqb}
use Rattle.std.proofs.Math.Dec.{leb}
use Rattle.ground.specs.Tests.{split, by_cond, and_l, and_r, and_i}
use Rattle.text.specs.Text.{ascii, digit, digits, decimal, signed}
use Rattle.text.specs.TextLaws.{read, read-decimal}
use Rattle.words.specs.Numbers.{is_digit, all_digits, number_in, negated, signed_in, number_among}

-- a byte that is no digit is below them or above
pub below-digits : (b : ℕ) → b < 48 → is_digit b ≡ false
below-digits b h = rw (lt-leb 48 b h)

pub above-digits : (b : ℕ) → 48 ≤ b → 57 < b → is_digit b ≡ false
above-digits b g h = rw (le-leb 48 b g, lt-leb b 57 h)

pub a-digit : (b : ℕ) → 48 ≤ b → b ≤ 57 → is_digit b ≡ true
a-digit b g h = rw (le-leb 48 b g, le-leb b 57 h)

-- along a word
module _ (w : List ℕ) (i : ℕ) (h : i < length w) where
  pub digit-more : is_digit (get_or w i 0) ≡ true → all_digits (drop i w) ≡ all_digits (drop (i + 1) w)
  unfolding all_digits
  digit-more t = rw (drop-cons w i 0 h, t, add-one i)

  pub no_digit : is_digit (get_or w i 0) ≡ false → all_digits (drop i w) ≡ false
  unfolding all_digits
  no_digit f = rw (drop-cons w i 0 h, f)

  pub read_more : (v : ℕ) → read v (drop i w) ≡ read (v * 10 + (get_or w i 0 - 48)) (drop (i + 1) w)
  read_more v = rw (drop-cons w i 0 h, add-one i)

pub read_grows : (v : ℕ) (s : List ℕ) → v ≤ read v s
read_grows v [] = omega arith
read_grows v (b ∷ s) = let q : v * 10 + (b - 48) ≤ read (v * 10 + (b - 48)) s = read_grows (v * 10 + (b - 48)) s in omega arith

-- at a word's end
pub digits-ended : (w : List ℕ) (i : ℕ) → length w ≤ i → all_digits (drop i w) ≡ true
unfolding all_digits
digits-ended w i h = rw (drop_of_length-le w h)

pub read-ended : (w : List ℕ) (i v : ℕ) → length w ≤ i → read v (drop i w) ≡ v
read-ended w i v h = rw (drop_of_length-le w h)

module _ (most : ℕ) where
  pub no_number : (w : List ℕ) → length w ≡ 0 → None ≡ number_in most w
  unfolding number_in
  no_number [] e = refl
  no_number (b ∷ w) e = absurd (omega arith)

  pub not-digits : (w : List ℕ) → all_digits w ≡ false → None ≡ number_in most w
  unfolding number_in
  not-digits [] f = refl
  not-digits (b ∷ w) f = rw f

  pub too-high : (w : List ℕ) → most < read 0 w → None ≡ number_in most w
  unfolding number_in
  too-high [] h = refl
  too-high (b ∷ w) h = elim (split (all_digits (b ∷ w))) [
    | inl t ↦ rw (t, lt-leb (read 0 (b ∷ w)) most h)
    | inr f ↦ rw f
  ]

  pub a-number : (w : List ℕ) → 0 < length w → all_digits w ≡ true → read 0 w ≤ most → Some (read 0 w) ≡ number_in most w
  unfolding number_in
  a-number [] l t h = absurd (omega arith)
  a-number (b ∷ w) l t h = rw (t, le-leb (read 0 (b ∷ w)) most h)

  -- no number is above the highest
  abbrev Within : Option ℕ → Type 0
  Within (Some v) = v ≤ most
  Within None = Unit

  within : (w : List ℕ) → Within (number_in most w)
  unfolding number_in
  within [] = tt
  within (b ∷ w) =
      by_cond Within (all_digits (b ∷ w) && leb (read 0 (b ∷ w)) most) (Some (read 0 (b ∷ w))) None
      (λ t. leb-true _ _ (and_r (all_digits (b ∷ w)) (leb (read 0 (b ∷ w)) most) t))
      (λ _. tt)

  pub not-above : (w : List ℕ) (v : ℕ) → Some v ≡ number_in most w → v ≤ most
  not-above w v e = let h = within w in rw (← e) at h

-- with a sign
pub no_sign : (w : List ℕ) → 0 < length w → (get_or w 0 0 ≡ 45 → ⊥) → signed_in w ≡ number_in (2 ^ 31 - 1) w
unfolding signed_in
no_sign [] l n = absurd (omega arith)
no_sign (b ∷ w) l n = rw (ne_eqb b 45 n)

pub a_sign : (w : List ℕ) → 0 < length w → get_or w 0 0 ≡ 45 → signed_in w ≡ negated (number_in (2 ^ 31) (drop 1 w))
unfolding signed_in
a_sign [] l e = absurd (omega arith)
a_sign (b ∷ w) l e = rw (eq-eqb b 45 e)

pub no_signed : (w : List ℕ) → length w ≡ 0 → None ≡ signed_in w
unfolding signed_in
no_signed [] e = refl
no_signed (b ∷ w) e = absurd (omega arith)

abbrev In32 : Option ℕ → Type 0
In32 (Some v) = v < 2 ^ 32
In32 None = Unit

negated_in_32 : (most : ℕ) (w : List ℕ) → In32 (negated (number_in most w))
negated_in_32 most w = go (number_in most w)
  where
    go : (x : Option ℕ) → In32 (negated x)
    go None = tt
    go (Some v) = by_cond (λ (y : ℕ). y < 2 ^ 32) (eqb v 0) 0 (2 ^ 32 - v) (λ _. omega arith) (λ f. below v f)
      where
        below : (v : ℕ) → eqb v 0 ≡ false → 2 ^ 32 - v < 2 ^ 32
        below zero f = let z : true ≡ false = f in absurd (true_no z)
          where
            true_no : true ≡ false → ⊥
            true_no e = let q : ◌≡◌ {A = ℕ} 0 1 = cc in omega arith
        below (suc v) f = omega arith

in_32 : (w : List ℕ) → In32 (signed_in w)
unfolding signed_in
in_32 [] = tt
in_32 (b ∷ w) =
    by_cond In32 (eqb b 45) (negated (number_in (2 ^ 31) w)) (number_in (2 ^ 31 - 1) (b ∷ w))
    (λ _. negated_in_32 (2 ^ 31) w)
    (λ _. small (number_in (2 ^ 31 - 1) (b ∷ w)) (λ v e. not-above (2 ^ 31 - 1) (b ∷ w) v e))
  where
    small : (x : Option ℕ) → ((v : ℕ) → Some v ≡ x → v ≤ 2 ^ 31 - 1) → In32 x
    small None h = tt
    small (Some v) h = let q : v ≤ 2 ^ 31 - 1 = h v refl in omega arith

pub signed_in_32 : (w : List ℕ) (v : ℕ) → Some v ≡ signed_in w → v < 2 ^ 32
signed_in_32 w v e = let h = in_32 w in rw (← e) at h

-- names, one by one
pub named_here : (k : ℕ) (name w : List ℕ) (names : List (List ℕ)) → bytes_eq name w ≡ true → number_among k (name ∷ names) w ≡ Some k
unfolding number_among
named_here k name w names t = rw t

pub named-later : (k : ℕ) (name w : List ℕ) (names : List (List ℕ)) → bytes_eq name w ≡ false → number_among k (name ∷ names) w ≡ number_among (k + 1) names w
unfolding number_among
named-later k name w names f = rw (f, add-one k)

pub not_named : (k : ℕ) (w : List ℕ) → number_among k [] w ≡ None
unfolding number_among
not_named k w = refl

abbrev Among : ℕ → Option ℕ → Type 0
Among m (Some v) = v < m
Among m None = Unit

among : (k : ℕ) (names : List (List ℕ)) (w : List ℕ) → Among (k + length names) (number_among k names w)
unfolding number_among
among k [] w = tt
among k (name ∷ names) w =
    by_cond (Among (k + suc (length names))) (bytes_eq name w) (Some k) (number_among (suc k) names w)
    (λ _. omega arith)
    (λ _. moved (number_among (suc k) names w) (among (suc k) names w))
  where
    moved : (x : Option ℕ) → Among (suc k + length names) x → Among (k + suc (length names)) x
    moved None h = tt
    moved (Some v) h = omega arith

pub among-names : (k : ℕ) (names : List (List ℕ)) (w : List ℕ) (v : ℕ) → Some v ≡ number_among k names w → v < k + length names
among-names k names w v e = let h = among k names w in rw (← e) at h

-- decimal numbers are read back
digits_then : (s t : List ℕ) → all_digits s ≡ true → all_digits t ≡ true → all_digits (s ++ t) ≡ true
unfolding all_digits
digits_then [] t p q = q
digits_then (b ∷ s) t p q = and_i (is_digit b) (all_digits (s ++ t)) (and_l (is_digit b) (all_digits s) p) (digits_then s t (and_r (is_digit b) (all_digits s) p) q)

one-digit : (d : ℕ) → d < 10 → all_digits (digit d ∷ []) ≡ true
unfolding all_digits
one-digit d h = rw (le-leb 48 (48 + d) (omega arith), le-leb (48 + d) 57 (omega arith))

no-digits : all_digits [] ≡ true
unfolding all_digits
no-digits = refl

digits-all : (k v : ℕ) → all_digits (digits k v) ≡ true
unfolding digits
digits-all zero v = no-digits
digits-all (suc k) v =
    by_cond (λ (s : List ℕ). all_digits s ≡ true) (ltb v 10) (digit v ∷ []) (digits k (v / 10) ++ (digit (v % 10) ∷ []))
    (λ t. one-digit v (ltb-true v 10 t))
    (λ _. digits_then (digits k (v / 10)) (digit (v % 10) ∷ []) (digits-all k (v / 10)) (one-digit (v % 10) (omega arith)))

pub decimal-digits : (v : ℕ) → all_digits (decimal v) ≡ true
unfolding decimal
decimal-digits v = digits-all 10 v

pub decimal-some : (v : ℕ) → 0 < length (decimal v)
unfolding decimal digits
decimal-some v =
    by_cond (λ (s : List ℕ). 0 < length s) (ltb v 10) (digit v ∷ []) (digits 9 (v / 10) ++ (digit (v % 10) ∷ []))
    (λ _. omega arith)
    (λ _. simp length-append (omega arith))

pub number-back : (most v : ℕ) → v < 2 ^ 32 → v ≤ most → number_in most (decimal v) ≡ Some v
number-back most v h m =
    let e : read 0 (decimal v) ≡ v = read-decimal v h in
    sym (a-number most (decimal v) (decimal-some v) (decimal-digits v) (omega arith)) ∙ ap Some e

first-digit : (w : List ℕ) → 0 < length w → all_digits w ≡ true → get_or w 0 0 ≡ 45 → ⊥
unfolding all_digits
first-digit [] l t e = omega arith
first-digit (b ∷ w) l t e =
    let g : 48 ≤ b = leb-true 48 b (and_l (leb 48 b) (leb b 57) (and_l (is_digit b) (all_digits w) t)) in
    omega arith

pub signed_back : (v : ℕ) → v < 2 ^ 32 → signed_in (signed v) ≡ Some v
unfolding signed
signed_back v h =
    by_cond (λ (w : List ℕ). signed_in w ≡ Some v) (ltb v (2 ^ 31)) (decimal v) (ascii "-" ++ decimal (2 ^ 32 - v))
    (λ t. no_sign (decimal v) (decimal-some v) (first-digit (decimal v) (decimal-some v) (decimal-digits v)) ∙ number-back (2 ^ 31 - 1) v h (omega (arith, ltb-true v (2 ^ 31) t)))
    (λ f. minus (le_of f))
  where
    le_of : ltb v (2 ^ 31) ≡ false → 2 ^ 31 ≤ v
    le_of f = omega (arith, leb-false (suc v) (2 ^ 31) f)

    minus : 2 ^ 31 ≤ v → signed_in (ascii "-" ++ decimal (2 ^ 32 - v)) ≡ Some v
    minus g =
        let n : 2 ^ 32 - v ≡ 0 → ⊥ = λ e. omega arith in
        let back : 2 ^ 32 - (2 ^ 32 - v) ≡ v = omega arith in
        a_sign (ascii "-" ++ decimal (2 ^ 32 - v)) (omega arith) refl
        ∙ ap negated (number-back (2 ^ 31) (2 ^ 32 - v) (omega arith) (omega arith))
        ∙ rw (ne_eqb (2 ^ 32 - v) 0 n, back)
