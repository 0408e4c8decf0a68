-- What the bench program prints, line by line, as bytes. Document 01, "The bench program".
use Rattle.std.specs.Prelude.{ℕ, suc, ◌+◌, ◌*◌, ◌-◌, min, List, [], ◌∷◌, ◌++◌, length, get_or}
use Rattle.text.specs.Text.{ascii, decimal, signed, line, lines}
use Rattle.model.specs.declared.Outcome.{Outcome}
use Rattle.model.specs.declared.Outcome.TheVariants.{None, Stay, Move}
use Rattle.bench_report.specs.declared.Row.{Row}
use Rattle.bench_report.specs.declared.MessageCounts.{MessageCounts}
use Rattle.bench_report.specs.declared.Summary.{Summary}

-- "Per record it prints the index from 0 and the answer (0 accepted)"
abbrev pub answer_line : List ℕ → ℕ → List ℕ
answer_line answers i = line (decimal i ∷ decimal (get_or answers i 0) ∷ [])

abbrev pub answer_lines : List ℕ → List ℕ
answer_lines answers = lines (length answers) (answer_line answers)

-- those whose index has so many tens
abbrev pub decade_line : List ℕ → ℕ → ℕ → List ℕ
decade_line answers tens k = answer_line answers (tens * 10 + k)

abbrev pub decade_lines : List ℕ → ℕ → List ℕ
decade_lines answers tens = lines (min 10 (length answers - tens * 10)) (decade_line answers tens)

-- "outcome (M, S, -)"
abbrev pub letter : Outcome → List ℕ
letter None = ascii "-"
letter Stay = ascii "S"
letter Move = ascii "M"

-- "Then per controller: C, number, stage (8 stopped, 9 standing by), outcome (M, S, -), position."
abbrev pub controller_line : ℕ → Row → List ℕ
controller_line k row = line (ascii "C" ∷ decimal k ∷ decimal row.stage ∷ letter row.outcome ∷ signed row.position ∷ [])

-- one for each of 1 to n. (A lock has n up to the limit. In a value with a larger n, the numbers above the limit show a controller that has just begun.)
abbrev pub blank_row : Row
blank_row = record { stage = 0; outcome = None; position = 0 }

abbrev pub controller_lines : ℕ → List Row → List ℕ
controller_lines n rows = lines n (λ i. controller_line (suc i) (get_or rows i blank_row))

-- "Then T and the telegrams sent in this order, by kind."
abbrev pub message_line : MessageCounts → List ℕ
message_line sent = line (ascii "T" ∷ decimal sent.vote ∷ decimal sent.ack ∷ decimal sent.help ∷ decimal sent.helped ∷ [])

-- The whole text. "With no lock there are no C lines": n is 0 then.
unfoldable pub report_of : List ℕ → Summary → List ℕ
report_of answers s = answer_lines answers ++ controller_lines s.n s.rows ++ message_line s.messages
