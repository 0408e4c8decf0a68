-- What is printed of an input, by what it is.
use Prim.Native.Nat.{ℕ, ◌≤◌, ◌<◌}
use mathlib.Core.Path.{◌≡◌, refl, sym, ◌∙◌, ap}
use mathlib.Core.Bool.{false}
use mathlib.Core.List.{List}
use native.Mathlib.Omega.{arith}
use native.Mathlib.Decide.{dec_lt}
use borrow.Author.Tests.{le-leb, lt-leb, lt-ltb, le-ltb}
use lib.ListN.{length}
use Rattle.text.specs.Text.{digits, decimal, refusal}
use Rattle.records.specs.Bytes.{AllBytes}
use Rattle.schedule_text.specs.Texts.{Turn, made, refused, write_text}
use Rattle.schedule_input.specs.Input.{is_text, longest_text, records_in, either_or, either_form, text_or}
use Rattle.schedule_input.specs.InputLaws.{of-text, of-records}
use Rattle.schedule_input.specs.Room.{few-lines}
use Rattle.schedule_input.proofs.NothingLost.{nothing_lost}
use Rattle.bench_report.specs.Limits.{longest_schedule, is_too_long}
use Rattle.bench_report.specs.Report.{too_long}
use Rattle.bench_output.specs.Output.{output_of, printed_of}
use Rattle.bench_output.specs.EitherForm.{EitherForm}
use Rattle.bench_output.proofs.Texts.{is_too-long}

one_line : refusal 1 ≡ too_long
unfolding decimal digits
one_line = refl

too_long_lem : (s : List ℕ) → longest_schedule < length s → refusal 1 ≡ output_of s
unfolding is_too_long
too_long_lem s h = one_line ∙ sym (is_too-long s (lt-ltb longest_schedule (length s) h))

-- of records, few or too many
of-made : (s r : List ℕ) → either_or output_of s (made r) ≡ output_of r
of-made s r = elim (dec_lt longest_schedule (length r)) [
  | yes h ↦ rw (lt-leb (length r) longest_schedule h) (too_long_lem r h)
  | no n ↦ rw (le-leb (length r) longest_schedule (omega arith))
]

short : (s : List ℕ) (x : Turn) → length s ≤ longest_text → x ≡ records_in s → printed_of s ≡ either_or output_of s x
unfolding either_form
short s x h e = rw (le-ltb longest_text (length s) h, e)

records : (s : List ℕ) → is_text s ≡ false → printed_of s ≡ output_of s
unfolding either_form
records s f = elim (dec_lt longest_text (length s)) [
  | yes h ↦ rw (lt-ltb longest_text (length s) h) (too_long_lem s (omega arith))
  | no n ↦ short s (made s) (omega arith) (of-records s f) ∙ of-made s s
]

-- a text that is too long stands for records that are
too_many : (s t : List ℕ) → write_text s ≡ made t → longest_text < length t → longest_schedule < length s
too_many s t e h = elim (dec_lt longest_schedule (length s)) [
  | yes l ↦ l
  | no n ↦
      let f : length (text_or (write_text s)) ≤ 327680 = few-lines s (omega arith) in
      let g : length (text_or (write_text s)) ≡ length t = ap (λ (x : Turn). length (text_or x)) e in
      absurd (omega arith)
]

as_written : (s t : List ℕ) → AllBytes s → write_text s ≡ made t → printed_of t ≡ output_of s
unfolding either_form
as_written s t all e = elim (dec_lt longest_text (length t)) [
  | yes h ↦ rw (lt-ltb longest_text (length t) h) (too_long_lem s (too_many s t e h))
  | no n ↦ short t (made s) (omega arith) (sym (nothing_lost.back s t all e)) ∙ of-made t s
]

pub either-form : EitherForm
either-form = record {
  records = records;
  text = λ s r t h e. short s (made r) h (sym e ∙ of-text s t) ∙ of-made s r;
  refused-text = λ s k i t h e. short s (refused k i) h (sym e ∙ of-text s t);
  written = as_written;
}
