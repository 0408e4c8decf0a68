-- What the levels program prints. Document 02, U1: "All three answers are shown to the keeper."
use Rattle.std.specs.Prelude.{ℕ, Result, Ok, Err, ◌+◌, cond, List, [], ◌∷◌, eqb, length}
use Rattle.text.specs.Text.{ascii, line, refusal}
use Rattle.records.specs.Bytes.{number4}
use Rattle.levels.specs.declared.Range.{Range}
use Rattle.levels.specs.declared.Willingness.{Willingness}
use Rattle.levels.specs.declared.Willingness.TheVariants.{Willing, CertainlyUnwilling, Unsure}
use Rattle.levels.specs.Ends.{willingness}

-- two levels of four bytes from a place on
abbrev pub range_at : List ℕ → ℕ → Range
range_at s at = record { low = number4 s at; high = number4 s (at + 4) }

-- the range above, then the range below; input of another length gets 1
unfoldable pub willingness_in : List ℕ → Result Willingness ℕ
willingness_in s = cond (eqb (length s) 16) (willingness (range_at s 0) (range_at s 8)) (Err 1)

-- the line for an answer; a refusal as "- " and its number
unfoldable pub words : Result Willingness ℕ → List ℕ
words (Ok Willing) = line (ascii "willing" ∷ [])
words (Ok CertainlyUnwilling) = line (ascii "certainly unwilling" ∷ [])
words (Ok Unsure) = line (ascii "unsure" ∷ [])
words (Err q) = refusal q

unfoldable pub output_of : List ℕ → List ℕ
output_of s = words (willingness_in s)
