-- A text in a lent buffer.
use Rattle.std.specs.Prelude.{ℕ, ◌+◌, ◌-◌, ◌^◌, ◌≤◌, min, ◌≡◌, cond, List, [], ◌++◌, leb, length, take, drop}
use Rattle.std.proofs.lemmas.List.Edits.{sets}

-- no index of a buffer is higher, and no buffer is longer
abbrev pub highest : ℕ
highest = 2 ^ 64 - 1

-- What a writer does to a buffer: from index `at` on stand the text's bytes, as far as the buffer goes, and nothing else has changed;
-- `next` is the index after the text (the highest there is, where that is none).
pub record Put (before after : List ℕ) (at next : ℕ) (text : List ℕ) : Type 0 where
  pub bytes : after ≡ sets before at text
  pub place : next ≡ min (at + length text) highest
  pub buffer : length before ≤ highest

-- A text at the front of a lent buffer, the rest as before; or nothing at all, where the buffer is too short.
unfoldable pub fitted : List ℕ → List ℕ → List ℕ
fitted text out = cond (leb (length text) (length out)) (text ++ drop (length text) out) out

-- its length; or 0
unfoldable pub fitted_length : List ℕ → List ℕ → ℕ
fitted_length text out = cond (leb (length text) (length out)) (length text) 0

-- the text is written whole at the front of the buffer, or not at all, and r is the length that is answered
abbrev pub WrittenWhole : List ℕ → List ℕ → List ℕ → ℕ → Type 0
WrittenWhole text before after r = (r ≡ fitted_length text before) × (after ≡ fitted text before)

-- The text at the front of an array of 22 bytes, up to a place in it; nothing, where the array has no such place.
unfoldable pub line_to : List ℕ → ℕ → List ℕ
line_to line end = cond (leb end 22) (take end line) []

-- What is promised of a program's whole output `text` in a lent buffer, and of the length r that is answered. That r counts bytes of the buffer follows; it is
-- said so that whoever lends `&buffer[..r]` on needs no proof of it.
abbrev pub Rendered : List ℕ → List ℕ → List ℕ → ℕ → Type 0
Rendered text before after r = (r ≡ fitted_length text before) × (after ≡ fitted text before) × (r ≤ length after) × (r ≡ length (take r after))
