-- A schedule in either form, and what the programs that turn one into the other print.
use Rattle.std.specs.Prelude.{ℕ, ◌-◌, ◌^◌, min, Bool, false, cond, not, ◌&&◌, ◌||◌, List, [], ◌∷◌, ◌++◌, eqb, leb, ltb, length, take, get_or}
use Rattle.std.specs.List.{list_any}
use Rattle.text.specs.Text.{ascii, decimal, refusal}
use Rattle.words.specs.Words.{lines_of, uncommented, nth_word}
use Rattle.bench_report.specs.Limits.{longest_schedule}
use Rattle.schedule_text.specs.Texts.{Turn, made, refused, read_text, write_text}

-- records begin with 4C 45, the mark of the first; 4C alone is the beginning of it
abbrev pub marked : List ℕ → Bool
marked [] = false
marked (a ∷ []) = eqb a 0x4C
marked (a ∷ b ∷ s) = eqb a 0x4C && eqb b 0x45

-- a text has no control byte but tabs, newlines and returns; every record that reads has one (`NothingLost`)
unfoldable pub is_control : ℕ → Bool
is_control b = ltb b 32 && not (eqb b 9 || eqb b 10 || eqb b 13)

unfoldable pub has_control : List ℕ → Bool
has_control s = list_any is_control s

-- all other bytes are records, and get the answers of document 01
unfoldable pub is_text : List ℕ → Bool
is_text s = not (marked s) && not (has_control s)

unfoldable pub records_in : List ℕ → Turn
records_in s = cond (is_text s) (read_text s) (made s)

-- a word, of a long one the beginning; or that a line has ended
abbrev pub word_shown : List ℕ → List ℕ
word_shown [] = ascii "end of line"
word_shown (b ∷ w) = take 40 (b ∷ w)

-- word i of line k, k from 1 on
abbrev pub word_of : List ℕ → ℕ → ℕ → List ℕ
word_of s k i = nth_word (uncommented (get_or (lines_of s) (k - 1) [])) i

-- the one line that is printed where a line is refused: its number, and the first word that was not expected
abbrev pub refused_word : ℕ → List ℕ → List ℕ
refused_word k w = ascii "- line " ++ (decimal (min k (2 ^ 32 - 1)) ++ (ascii ": " ++ (word_shown w ++ ascii "\n")))

unfoldable pub refused_line : List ℕ → ℕ → ℕ → List ℕ
refused_line s k i = refused_word k (word_of s k i)

-- and where a record is: its index from 0 on, and the question's number
unfoldable pub refused_record : ℕ → ℕ → List ℕ
refused_record k q = ascii "- record " ++ (decimal (min k (2 ^ 32 - 1)) ++ (ascii ": " ++ (decimal (min q (2 ^ 32 - 1)) ++ ascii "\n")))

-- the most bytes of a text
abbrev pub longest_text : ℕ
longest_text = 327680

-- what a program prints of a schedule in either form that prints `of` of its records: that; or the refused line alone; or "- 1", where there are too many
abbrev pub either_or : (List ℕ → List ℕ) → List ℕ → Turn → List ℕ
either_or of s (made r) = cond (leb (length r) longest_schedule) (of r) (refusal 1)
either_or of s (refused k i) = refused_line s k i

unfoldable pub either_form : (List ℕ → List ℕ) → List ℕ → List ℕ
either_form of s = cond (ltb longest_text (length s)) (refusal 1) (either_or of s (records_in s))

-- `records` prints the records
abbrev pub records_output : List ℕ → List ℕ
records_output s = either_form (λ r. r) s

-- `text` prints their text, or the record that is refused
abbrev pub text_or : Turn → List ℕ
text_or (made t) = t
text_or (refused k q) = refused_record k q

abbrev pub text_output : List ℕ → List ℕ
text_output s = either_form (λ r. text_or (write_text r)) s
