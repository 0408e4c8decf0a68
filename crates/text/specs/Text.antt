-- Texts as lists of bytes: quoted texts, decimal numbers, lines.
use Rattle.std.specs.Prelude.{ℕ, zero, suc, ◌+◌, ◌-◌, ◌/◌, ◌%◌, ◌^◌, cond, List, [], ◌∷◌, ◌++◌, ltb}
use Prim.Native.Char.{code}
use Prim.Native.String.{String, [] as «end», ◌∷◌ as ◌then◌}

-- a quoted text in ASCII
abbrev pub ascii : String → List ℕ
ascii «end» = []
ascii (c then s) = code c ∷ ascii s

abbrev pub digit : ℕ → ℕ
digit d = code "0" + d

-- a number below 10 ^ k in decimal digits
unfoldable pub digits : ℕ → ℕ → List ℕ
digits zero v = []
digits (suc k) v = cond (ltb v 10) (digit v ∷ []) (digits k (v / 10) ++ (digit (v % 10) ∷ []))

-- a number of 32 bits has at most ten digits
unfoldable pub decimal : ℕ → List ℕ
decimal v = digits 10 v

-- a number of 32 bits read as two's complement: from 2³¹ on it is v − 2³²
unfoldable pub signed : ℕ → List ℕ
signed v = cond (ltb v (2 ^ 31)) (decimal v) (ascii "-" ++ decimal (2 ^ 32 - v))

-- a line: its fields, one space between two of them, a newline at the end
abbrev pub line : List (List ℕ) → List ℕ
line [] = ascii "\n"
line (x ∷ []) = x ++ ascii "\n"
line (x ∷ y ∷ rest) = x ++ (ascii " " ++ line (y ∷ rest))

-- the lines that a function gives for 0 to m - 1
unfoldable pub lines : ℕ → (ℕ → List ℕ) → List ℕ
lines zero at = []
lines (suc m) at = lines m at ++ at m

-- the one line of a program that refuses its whole input: a dash and the refusal's number
abbrev pub refusal : ℕ → List ℕ
refusal q = line (ascii "-" ∷ decimal q ∷ [])
