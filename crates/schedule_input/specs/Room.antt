-- How long the output can be: a program's buffer holds it.
use Rattle.std.specs.Prelude.{ℕ, ◌*◌, ◌≤◌, leb, ltb}
use mathlib.Core.List.{List}
use native.Mathlib.Omega.{arith}
use Rattle.std.proofs.Common.{leb-true}
use Rattle.std.proofs.Math.ListN.{length}
use Rattle.ground.specs.Tests.{by_cond}
use Rattle.text.specs.Text.{refusal}
use Rattle.text.specs.Lengths.{refusal-length}
use Rattle.bench_report.specs.Limits.{longest_schedule}
use Rattle.schedule_text.specs.Texts.{Turn, made, refused, write_records, count, write_text}
use Rattle.schedule_text.proofs.Lengths.{Within, records-within}
use Rattle.schedule_input.specs.Input.{longest_text, refused_line, records_in, either_or, either_form, records_output, text_or, text_output}
use Rattle.schedule_input.specs.InputLaws.{refused-line-length, refused_record-length}

text_or_lem : (x : Turn) (n : ℕ) → n ≤ 327680 → Within n x → length (text_or x) ≤ 327680
text_or_lem (made t) n h w = omega arith
text_or_lem (refused k q) n h w = omega (arith, refused_record-length k q)

pub few-lines : (r : List ℕ) → length r ≤ longest_schedule → length (text_or (write_text r)) ≤ 327680
unfolding write_text
few-lines r h = text_or_lem (write_records 0 (count r) r) (80 * count r) (omega arith) (records-within (count r) 0 r)

-- what is printed of few records, or a refusal
module _ (of : List ℕ → List ℕ) (m : ℕ) (room : 60 ≤ m) (within : (r : List ℕ) → length r ≤ longest_schedule → length (of r) ≤ m) (s : List ℕ) where
  of-result : (x : Turn) → length (either_or of s x) ≤ m
  of-result (refused k i) = omega (arith, refused-line-length s k i)
  of-result (made r) =
      by_cond (λ (t : List ℕ). length t ≤ m) (leb (length r) longest_schedule) (of r) (refusal 1)
      (λ t. within r (leb-true (length r) longest_schedule t))
      (λ _. omega (arith, refusal-length 1))

  pub either_fits : length (either_form of s) ≤ m
  unfolding either_form
  either_fits =
      by_cond (λ (t : List ℕ). length t ≤ m) (ltb longest_text (length s)) (refusal 1) (either_or of s (records_in s))
      (λ _. omega (arith, refusal-length 1))
      (λ _. of-result (records_in s))

-- and something is printed always, where it is of records
module _ (of : List ℕ → List ℕ) (some : (r : List ℕ) → 1 ≤ length (of r)) (s : List ℕ) where
  some_of : (x : Turn) → 1 ≤ length (either_or of s x)
  unfolding refused_line
  some_of (refused k i) = omega arith
  some_of (made r) = by_cond (λ (t : List ℕ). 1 ≤ length t) (leb (length r) longest_schedule) (of r) (refusal 1) (λ _. some r) (λ _. omega arith)

  pub either-some : 1 ≤ length (either_form of s)
  unfolding either_form
  either-some =
      by_cond (λ (t : List ℕ). 1 ≤ length t) (ltb longest_text (length s)) (refusal 1) (either_or of s (records_in s))
      (λ _. omega arith)
      (λ _. some_of (records_in s))

-- 327,680 bytes hold every text that is printed, and 40,960 all records
pub text_fits : (s : List ℕ) → length (text_output s) ≤ 327680
text_fits s = either_fits (λ r. text_or (write_text r)) 327680 (omega arith) few-lines s

pub records-fit : (s : List ℕ) → length (records_output s) ≤ longest_schedule
records-fit s = either_fits (λ r. r) longest_schedule (omega arith) (λ r h. h) s
