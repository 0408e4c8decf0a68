-- The last four digits of a number, as they are printed.
use Rattle.std.specs.Prelude.{ℕ, ◌/◌, ◌%◌}
use Rattle.text.specs.Text.{digit}
use Rattle.bench_report.specs.declared.Digits.{Digits}

abbrev pub digits_of : ℕ → Digits
digits_of v = record { thousands = digit (v / 10 / 10 / 10 % 10); hundreds = digit (v / 10 / 10 % 10); tens = digit (v / 10 % 10); ones = digit (v % 10) }
