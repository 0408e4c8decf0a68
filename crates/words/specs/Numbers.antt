-- What a word stands for: a number in decimal, a number with its sign, or one of some names.
use Rattle.std.specs.Prelude.{ℕ, suc, ◌-◌, ◌^◌, Bool, true, cond, ◌&&◌, Option, Some, None, List, [], ◌∷◌, eqb, leb, bytes_eq}
use Prim.Native.Char.{code}
use Rattle.text.specs.TextLaws.{read}
use Rattle.words.specs.Words.{words_of}

abbrev pub is_digit : ℕ → Bool
is_digit b = leb (code "0") b && leb b (code "9")

unfoldable pub all_digits : List ℕ → Bool
all_digits [] = true
all_digits (b ∷ s) = is_digit b && all_digits s

-- one or more digits, up to a highest number
unfoldable pub number_in : ℕ → List ℕ → Option ℕ
number_in most [] = None
number_in most (b ∷ s) = cond (all_digits (b ∷ s) && leb (read 0 (b ∷ s)) most) (Some (read 0 (b ∷ s))) None

-- the two's complement in 32 bits of a number below zero
abbrev pub negated : Option ℕ → Option ℕ
negated None = None
negated (Some v) = Some (cond (eqb v 0) 0 (2 ^ 32 - v))

-- a number from −2³¹ to 2³¹ − 1
unfoldable pub signed_in : List ℕ → Option ℕ
signed_in [] = None
signed_in (b ∷ s) = cond (eqb b (code "-")) (negated (number_in (2 ^ 31) s)) (number_in (2 ^ 31 - 1) (b ∷ s))

-- the number of a word among names, which count from a number on
unfoldable pub number_among : ℕ → List (List ℕ) → List ℕ → Option ℕ
number_among k [] w = None
number_among k (name ∷ names) w = cond (bytes_eq name w) (Some k) (number_among (suc k) names w)

abbrev pub name_in : ℕ → List ℕ → List ℕ → Option ℕ
name_in first names w = number_among first (words_of names) w
