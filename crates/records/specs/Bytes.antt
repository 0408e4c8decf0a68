-- Document 01, "Records": "Numbers of several bytes are big-endian."
use Rattle.std.specs.Prelude.{ℕ, ◌+◌, ◌*◌, ◌/◌, ◌%◌, ◌<◌, List, [], ◌∷◌, ◌++◌, get_or}

-- the byte at a place
abbrev pub byte : List ℕ → ℕ → ℕ
byte s at = get_or s at 0

-- the number that two bytes stand for, and that four do: the first byte is the highest
abbrev pub number2 : List ℕ → ℕ → ℕ
number2 s at = byte s at * 256 + byte s (at + 1)

abbrev pub number4 : List ℕ → ℕ → ℕ
number4 s at = number2 s at * 65536 + number2 s (at + 2)

-- a number as two bytes, and as four
abbrev pub bytes2 : ℕ → List ℕ
bytes2 v = v / 256 % 256 ∷ v % 256 ∷ []

abbrev pub bytes4 : ℕ → List ℕ
bytes4 v = bytes2 (v / 65536) ++ bytes2 v

-- every element is a byte
abbrev pub AllBytes : List ℕ → Type 0
AllBytes s = (at : ℕ) → byte s at < 256

-- how wide a number stands on a record, in bytes
pub data Width : Type 0 where
  one : Width
  two : Width
  four : Width

abbrev pub size : Width → ℕ
size one = 1
size two = 2
size four = 4

abbrev pub number_at : Width → List ℕ → ℕ → ℕ
number_at one s at = byte s at
number_at two s at = number2 s at
number_at four s at = number4 s at

abbrev pub bytes_of_width : Width → ℕ → List ℕ
bytes_of_width one v = v ∷ []
bytes_of_width two v = bytes2 v
bytes_of_width four v = bytes4 v

-- numbers that follow one another with nothing between them, from a place on
abbrev pub numbers_at : List Width → List ℕ → ℕ → List ℕ
numbers_at [] s at = []
numbers_at (w ∷ ws) s at = number_at w s at ∷ numbers_at ws s (at + size w)

abbrev pub bytes_of_widths : List Width → List ℕ → List ℕ
bytes_of_widths [] vs = []
bytes_of_widths (w ∷ ws) [] = []
bytes_of_widths (w ∷ ws) (v ∷ vs) = bytes_of_width w v ++ bytes_of_widths ws vs

abbrev pub total_width : List Width → ℕ
total_width [] = 0
total_width (w ∷ ws) = size w + total_width ws
