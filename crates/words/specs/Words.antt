-- Text as lines, and lines as words.
use Rattle.std.specs.Prelude.{ℕ, zero, suc, ◌+◌, ◌-◌, ◌≤◌, ◌≡◌, Bool, cond, not, ◌||◌, List, [], ◌∷◌, eqb, ltb, length, take, drop, get_or}
use Rattle.words.specs.declared.Class.{Class}
use Rattle.words.specs.declared.Class.TheVariants.{Gap, Word, Line, Shown}
use Rattle.words.specs.declared.Span.{Span}

-- between two words stand spaces, tabs and returns; a line ends at a newline; "#" begins a comment
unfoldable pub belongs : Class → ℕ → Bool
belongs Gap b = eqb b 32 || eqb b 9 || eqb b 13
belongs Word b = not (eqb b 32 || eqb b 9 || eqb b 13)
belongs Line b = not (eqb b 10)
belongs Shown b = not (eqb b 35)

-- how many bytes of a class stand at the front
unfoldable pub run : Class → List ℕ → ℕ
run c [] = 0
run c (b ∷ s) = cond (belongs c b) (suc (run c s)) 0

-- a byte before the first of some pieces
abbrev pub within : ℕ → List (List ℕ) → List (List ℕ)
within b [] = (b ∷ []) ∷ []
within b (p ∷ ps) = (b ∷ p) ∷ ps

-- the pieces between the bytes that are not of a class; there is always a last one, which may be empty
unfoldable pub pieces : Class → List ℕ → List (List ℕ)
pieces c [] = [] ∷ []
pieces c (b ∷ s) = cond (belongs c b) (within b (pieces c s)) ([] ∷ pieces c s)

abbrev pub not_empty : List (List ℕ) → List (List ℕ)
not_empty [] = []
not_empty ([] ∷ ps) = not_empty ps
not_empty ((b ∷ p) ∷ ps) = (b ∷ p) ∷ not_empty ps

abbrev pub lines_of : List ℕ → List (List ℕ)
lines_of s = pieces Line s

-- a line without its comment
abbrev pub uncommented : List ℕ → List ℕ
uncommented l = take (run Shown l) l

unfoldable pub words_of : List ℕ → List (List ℕ)
words_of l = not_empty (pieces Word l)

-- where the first word from a place on begins and ends: both are the end, where there is none
abbrev pub end_of_run : Class → List ℕ → ℕ → ℕ
end_of_run c s at = at + run c (drop at s)

-- what is answered of a run's end, with what whoever lends the run needs
pub record RunEnd (c : Class) (s : List ℕ) (at r : ℕ) : Type 0 where
  pub is : r ≡ end_of_run c s at
  pub low : at ≤ r
  pub high : at ≤ length s → r ≤ length s

abbrev pub span : ℕ → ℕ → Span
span from to = record { from = from; to = to }

-- the part of a text from a place to another
abbrev pub part : List ℕ → Span → List ℕ
part s r = take (r.to - r.from) (drop r.from s)

unfoldable pub span_at : List ℕ → ℕ → Span
span_at s at = span (end_of_run Gap s at) (end_of_run Word s (end_of_run Gap s at))

-- the same of a word
pub record Next (s : List ℕ) (at : ℕ) (r : Span) : Type 0 where
  pub is : r ≡ span_at s at
  pub low : at ≤ r.from
  pub middle : r.from ≤ r.to
  pub high : at ≤ length s → r.to ≤ length s

-- where the first k words end, and the word after them
unfoldable pub past : List ℕ → ℕ → ℕ
past s zero = 0
past s (suc k) = (span_at s (past s k)).to

abbrev pub nth_span : List ℕ → ℕ → Span
nth_span s k = span_at s (past s k)

abbrev pub nth_word : List ℕ → ℕ → List ℕ
nth_word s k = get_or (words_of s) k []

-- where line k begins, k from 0 on, and from where to where it stands: at the end, where there is none
unfoldable pub line_at : List ℕ → ℕ → ℕ
line_at s zero = 0
line_at s (suc k) = end_of_run Line s (line_at s k) + 1

unfoldable pub line_span : List ℕ → ℕ → Span
line_span s k = cond (ltb (length s) (line_at s k)) (span (length s) (length s)) (span (line_at s k) (end_of_run Line s (line_at s k)))

abbrev pub nth_line : List ℕ → ℕ → List ℕ
nth_line s k = get_or (lines_of s) k []
