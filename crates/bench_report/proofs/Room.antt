-- How long the report can be.
use Rattle.std.specs.Prelude.{ℕ, suc, ◌*◌, ◌≤◌, List, [], ◌∷◌, ◌++◌, ◌≡◌, refl, length, get_or}
use Rattle.std.proofs.Common.{arith, length-append}
use Rattle.text.specs.Text.{decimal, line}
use Rattle.text.specs.Lengths.{decimal-length, signed-length, lines-length}
use Rattle.model.specs.declared.Outcome.{Outcome}
use Rattle.model.specs.declared.Outcome.TheVariants.{None, Stay, Move}
use Rattle.bench_report.specs.declared.Row.{Row}
use Rattle.bench_report.specs.declared.MessageCounts.{MessageCounts}
use Rattle.bench_report.specs.declared.Summary.{Summary}
use Rattle.bench_report.specs.Limits.{answer_width, controller_width, message_width, longest_report}
use Rattle.bench_report.specs.Lines.{letter, blank_row, answer_line, answer_lines, controller_line, controller_lines, message_line, report_of}

letter-length : (o : Outcome) → length (letter o) ≡ 1
letter-length None = refl
letter-length Stay = refl
letter-length Move = refl

pub answer-length : (i answer : ℕ) → length (line (decimal i ∷ decimal answer ∷ [])) ≤ answer_width
answer-length i answer = simp length-append (omega (arith, decimal-length i, decimal-length answer))

controller-length : (k : ℕ) (r : Row) → length (controller_line k r) ≤ controller_width
controller-length k r =
    simp length-append
    (omega (arith, decimal-length k, decimal-length r.stage, letter-length r.outcome, signed-length r.position))

message-length : (t : MessageCounts) → length (message_line t) ≤ message_width
message-length t =
    simp length-append
    (omega (arith, decimal-length t.vote, decimal-length t.ack, decimal-length t.help, decimal-length t.helped))

pub report-length : (answers : List ℕ) (s : Summary) → length (report_of answers s) ≤ longest_report (length answers) s.n
unfolding report_of
report-length answers s =
    let rows = controller_lines s.n s.rows in
    let p : length (answer_lines answers) ≤ length answers * answer_width = lines-length answer_width (length answers) (answer_line answers) (λ i. answer-length i (get_or answers i 0)) in
    let q : length rows ≤ s.n * controller_width =
    lines-length controller_width s.n (λ i. controller_line (suc i) (get_or s.rows i blank_row)) (λ i. controller-length (suc i) (get_or s.rows i blank_row)) in
    let r : length (message_line s.messages) ≤ message_width = message-length s.messages in
    rw (length-append (answer_lines answers ++ rows) (message_line s.messages), length-append (answer_lines answers) rows) (omega arith)

-- no text is empty, so that 0 says that nothing was written
pub report-some : (answers : List ℕ) (s : Summary) → 1 ≤ length (report_of answers s)
unfolding report_of
report-some answers s = rw (length-append (answer_lines answers ++ controller_lines s.n s.rows) (message_line s.messages)) (omega arith)
