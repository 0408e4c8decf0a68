-- What the line program prints of the bytes on standard input.
use Rattle.std.specs.Prelude.{ℕ, cond, List, [], ◌∷◌, map, eqb, ltb, length, take, get_or}
use Rattle.text.specs.Text.{ascii, decimal, line, lines, refusal}
use Rattle.line.specs.declared.Act.{Act}
use Rattle.line.specs.declared.Act.TheVariants.{Turn, Call}
use Rattle.line.specs.declared.Answer.{Answer}
use Rattle.line.specs.declared.Answer.TheVariants.{Accepted, Refused, Served, Nobody}
use Rattle.line.specs.Turns.{number}
use Rattle.line.specs.Claim.{answer}

-- each byte is an act: 0 a turn, any other value a call by that lock
abbrev pub act_of : ℕ → Act
act_of b = cond (eqb b 0) Turn (Call b)

abbrev pub acts : List ℕ → List Act
acts s = map act_of s

-- of a call 0 or 25; of a turn the lock served, or a dash
abbrev pub shown : Answer → List ℕ
shown Accepted = decimal (number Accepted)
shown Refused = decimal (number Refused)
shown (Served k) = decimal k
shown Nobody = ascii "-"

-- what act i answers, after the acts before it
abbrev pub answer_at : List ℕ → ℕ → Answer
answer_at s i = answer (acts (take i s)) (act_of (get_or s i 0))

-- its line: the index, and that answer
abbrev pub act_line : List ℕ → ℕ → List ℕ
act_line s i = line (decimal i ∷ shown (answer_at s i) ∷ [])

-- the most acts that are run
abbrev pub most : ℕ
most = 4096

-- a line for each act; or, above 4,096 of them, just "- 1"
unfoldable pub output_of : List ℕ → List ℕ
output_of s = cond (ltb most (length s)) (refusal 1) (lines (length s) (act_line s))
