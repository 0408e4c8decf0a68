-- How long a text can be.
use Rattle.std.specs.Prelude.{ℕ, zero, suc, ◌*◌, ◌-◌, ◌/◌, ◌%◌, ◌^◌, ◌≤◌, List, [], ◌∷◌, ◌++◌, ltb, length}
use Rattle.std.proofs.Common.{suc-mul, arith, length-append}
use Rattle.ground.specs.Tests.{by_cond}
use Rattle.text.specs.Text.{ascii, digit, digits, decimal, signed, lines, refusal}

digits-length : (k v : ℕ) → length (digits k v) ≤ k
unfolding digits
digits-length zero v = omega arith
digits-length (suc k) v =
    let q : length (digits k (v / 10)) ≤ k = digits-length k (v / 10) in
    by_cond (λ (s : List ℕ). length s ≤ suc k) (ltb v 10) (digit v ∷ []) (digits k (v / 10) ++ (digit (v % 10) ∷ []))
    (λ _. omega arith)
    (λ _. simp length-append (omega arith))

pub decimal-length : (v : ℕ) → length (decimal v) ≤ 10
unfolding decimal
decimal-length v = digits-length 10 v

pub signed-length : (v : ℕ) → length (signed v) ≤ 11
unfolding signed
signed-length v =
    by_cond (λ (s : List ℕ). length s ≤ 11) (ltb v (2 ^ 31)) (decimal v) (ascii "-" ++ decimal (2 ^ 32 - v))
    (λ _. omega (arith, decimal-length v))
    (λ _. omega (arith, decimal-length (2 ^ 32 - v)))

-- m lines of at most w bytes
pub lines-length : (w m : ℕ) (at : ℕ → List ℕ) → ((i : ℕ) → length (at i) ≤ w) → length (lines m at) ≤ m * w
unfolding lines
lines-length w zero at h = omega arith
lines-length w (suc m) at h =
    let q : length (lines m at) ≤ m * w = lines-length w m at h in
    let r : length (at m) ≤ w = h m in
    simp (length-append, suc-mul) (omega arith)

pub refusal-length : (q : ℕ) → length (refusal q) ≤ 13
refusal-length q = simp length-append (omega (arith, decimal-length q))
