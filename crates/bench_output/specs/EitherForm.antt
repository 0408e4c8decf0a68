-- What the program prints of an input, by what it is.
use Rattle.std.specs.Prelude.{ℕ, ◌≤◌, ◌≡◌, true, false, List, length}
use Rattle.records.specs.Bytes.{AllBytes}
use Rattle.schedule_text.specs.Texts.{made, refused, read_text, write_text}
use Rattle.schedule_input.specs.Input.{is_text, longest_text, refused_line}
use Rattle.bench_output.specs.Output.{output_of, printed_of}

pub record EitherForm : Type 0 where
  -- of all bytes that are no text, what document 01 says
  pub records : (s : List ℕ) → is_text s ≡ false → printed_of s ≡ output_of s
  -- of a text, what is printed of its records; of one that is refused, its one line and nothing else
  pub text : (s r : List ℕ) → is_text s ≡ true → length s ≤ longest_text → read_text s ≡ made r → printed_of s ≡ output_of r
  pub refused-text : (s : List ℕ) (k i : ℕ) → is_text s ≡ true → length s ≤ longest_text → read_text s ≡ refused k i → printed_of s ≡ refused_line s k i
  -- so the text of a schedule prints what the schedule does
  pub written : (s t : List ℕ) → AllBytes s → write_text s ≡ made t → printed_of t ≡ output_of s
