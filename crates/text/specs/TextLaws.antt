-- That the text says what it should: digits read back give the number, for every number of 32 bits; the sign is that of two's complement.
use Rattle.std.specs.Prelude.{ℕ, zero, suc, ◌+◌, ◌*◌, ◌-◌, ◌/◌, ◌%◌, ◌^◌, ◌<◌, List, [], ◌∷◌, ◌++◌, ◌≡◌, refl, ltb}
use Prim.Native.Char.{code}
use Rattle.std.proofs.Common.{◌∙◌, pow-suc, arith}
use Rattle.ground.specs.Tests.{by_cond}
use Rattle.text.specs.Text.{ascii, digit, digits, decimal, signed}

-- the number that digits make, after some before them
abbrev pub read : ℕ → List ℕ → ℕ
read before [] = before
read before (d ∷ rest) = read (before * 10 + (d - code "0")) rest

read_then : (before d : ℕ) (s : List ℕ) → read before (s ++ (d ∷ [])) ≡ read before s * 10 + (d - code "0")
read_then before d [] = refl
read_then before d (x ∷ s) = read_then (before * 10 + (x - code "0")) d s

read-digits : (k v : ℕ) → v < 10 ^ k → read 0 (digits k v) ≡ v
unfolding digits
read-digits zero v h = let z : v < 1 = h in omega arith
read-digits (suc k) v h =
    let q : v < 10 ^ k * 10 = rw pow-suc at h in
    let ih : read 0 (digits k (v / 10)) ≡ v / 10 = read-digits k (v / 10) (omega arith) in
    by_cond (λ (s : List ℕ). read 0 s ≡ v) (ltb v 10) (digit v ∷ []) (digits k (v / 10) ++ (digit (v % 10) ∷ []))
    (λ _. omega arith)
    (λ _. read_then 0 (digit (v % 10)) (digits k (v / 10)) ∙ rw ih (omega arith))

pub read-decimal : (v : ℕ) → v < 2 ^ 32 → read 0 (decimal v) ≡ v
unfolding decimal
read-decimal v h = read-digits 10 v (omega arith)

-- the ends of the range, and beside 0
pub highest : signed (2 ^ 31 - 1) ≡ ascii "2147483647"
unfolding signed decimal digits
highest = refl

pub lowest : signed (2 ^ 31) ≡ ascii "-2147483648"
unfolding signed decimal digits
lowest = refl

pub below-zero : signed (2 ^ 32 - 1) ≡ ascii "-1"
unfolding signed decimal digits
below-zero = refl

pub nought : signed 0 ≡ ascii "0"
unfolding signed decimal digits
nought = refl
