-- Laws of bytes: numbers and their bytes, both ways round; a list as its elements; a buffer that a copy fills.
use Rattle.std.specs.Prelude.{ℕ, zero, suc, ◌+◌, ◌*◌, ◌/◌, ◌%◌, ◌^◌, ◌≤◌, ◌<◌, ◌≡◌, refl, List, [], ◌∷◌, ◌++◌, length, take, drop, get_or}
use Rattle.std.proofs.Common.{sym, ◌∙◌, ap, append-nil, arith, drop_of_length-le}
use Rattle.std.proofs.Math.ListN.{get_or-eq_default}
use Rattle.std.proofs.Math.Seq.{take-length}
use Rattle.std.specs.Int.{w16, w32, to_be_bytes}
use Rattle.records.specs.Bytes.{byte, bytes2, bytes4}

-- the number of its bytes
pub number-of-two : (v : ℕ) → v < 65536 → v / 256 % 256 * 256 + v % 256 ≡ v
number-of-two v h = omega arith

low16 : (v : ℕ) → v / 256 % 256 * 256 + v % 256 ≡ v % 65536
low16 v = omega arith

pub number-of-four : (v : ℕ) → v < 2 ^ 32 → (v / 65536 / 256 % 256 * 256 + v / 65536 % 256) * 65536 + (v / 256 % 256 * 256 + v % 256) ≡ v
number-of-four v h = rw (low16 (v / 65536), low16 v) (omega arith)

-- the bytes of a number of bytes
pub of_two : (a b : ℕ) → a < 256 → b < 256 → bytes2 (a * 256 + b) ≡ a ∷ b ∷ []
of_two a b p q =
    let e : (a * 256 + b) / 256 % 256 ≡ a = omega arith in
    let f : (a * 256 + b) % 256 ≡ b = omega arith in
    rw (e, f)

high : (x y : ℕ) → y < 65536 → (x * 65536 + y) / 65536 ≡ x
high x y h = omega arith

cut : (x y : ℕ) → bytes2 (x * 65536 + y) ≡ bytes2 y
cut x y =
    let e : (x * 65536 + y) / 256 % 256 ≡ y / 256 % 256 = omega arith in
    let f : (x * 65536 + y) % 256 ≡ y % 256 = omega arith in
    rw (e, f)

pub of_four : (a b c d : ℕ) → a < 256 → b < 256 → c < 256 → d < 256 → bytes4 ((a * 256 + b) * 65536 + (c * 256 + d)) ≡ a ∷ b ∷ c ∷ d ∷ []
of_four a b c d p q r s =
    let x : ℕ = a * 256 + b in
    let y : ℕ = c * 256 + d in
    let front : bytes2 ((x * 65536 + y) / 65536) ≡ a ∷ b ∷ [] = ap bytes2 (high x y (omega arith)) ∙ of_two a b p q in
    let back : bytes2 (x * 65536 + y) ≡ c ∷ d ∷ [] = cut x y ∙ of_two c d r s in
    ap (λ (l : List ℕ). l ++ bytes2 (x * 65536 + y)) front ∙ ap (λ (l : List ℕ). (a ∷ b ∷ []) ++ l) back

-- the elements of a list, from a place on
abbrev places : ℕ → ℕ → List ℕ → List ℕ
places zero i s = []
places (suc n) i s = byte s i ∷ places n (suc i) s

shift : (n i x : ℕ) (s : List ℕ) → places n (suc i) (x ∷ s) ≡ places n i s
shift zero i x s = refl
shift (suc n) i x s = ap (λ (l : List ℕ). byte s i ∷ l) (shift n (suc i) x s)

pub spread : (n : ℕ) (s : List ℕ) → length s ≡ n → s ≡ places n 0 s
spread zero [] h = refl
spread zero (x ∷ s) h = absurd (omega arith)
spread (suc n) [] h = absurd (omega arith)
spread (suc n) (x ∷ s) h = ap (λ (l : List ℕ). x ∷ l) (spread n s (omega arith) ∙ sym (shift n 0 x s))

-- a copy that fills its buffer leaves in it just what was copied
whole : (s before : List ℕ) → length s ≡ length before → take (length s) s ++ drop (length s) before ≡ s
whole s before h = rw (take-length s, drop_of_length-le before {i = length s} (omega arith)) (append-nil s)

pub filled : (s t before after : List ℕ) → after ≡ take (length s) s ++ drop (length s) before → s ≡ t → length before ≡ length t → after ≡ t
filled s t before after e r h = e ∙ (whole s before (ap length r ∙ sym h) ∙ r)

-- places, as the code counts them from a place on
pub plus_none : (at : ℕ) → at + 0 ≡ at
plus_none at = omega arith

pub plus-three : (at : ℕ) → at + 2 + 1 ≡ at + 3
plus-three at = omega arith

-- past the end every byte reads as 0
pub byte_past : (s : List ℕ) (k : ℕ) → length s ≤ k → byte s k ≡ 0
byte_past s k h = get_or-eq_default s 0 h

-- std's bytes of a number are its two, and its four
pub be_two : (v : ℕ) → to_be_bytes w16 v ≡ bytes2 v
be_two v = let a : get_or (to_be_bytes w16 v) 0 0 ≡ v / 256 % 256 = omega arith in let b : get_or (to_be_bytes w16 v) 1 0 ≡ v % 256 = omega arith in λ i. a i ∷ b i ∷ []

pub be_four : (v : ℕ) → to_be_bytes w32 v ≡ bytes4 v
be_four v =
    let a : get_or (to_be_bytes w32 v) 0 0 ≡ v / 65536 / 256 % 256 = omega arith in
    let b : get_or (to_be_bytes w32 v) 1 0 ≡ v / 65536 % 256 = omega arith in
    let c : get_or (to_be_bytes w32 v) 2 0 ≡ v / 256 % 256 = omega arith in
    let d : get_or (to_be_bytes w32 v) 3 0 ≡ v % 256 = omega arith in
    λ i. a i ∷ b i ∷ c i ∷ d i ∷ []
