-- What is written: the report, the line for a schedule that is too long, or nothing.
use Rattle.std.specs.Prelude.{ℕ, cond, List, [], ltb, length}
use Rattle.text.specs.Text.{ascii}
use Rattle.bench_report.specs.declared.Summary.{Summary}
use Rattle.bench_report.specs.Limits.{most_answers}
use Rattle.bench_report.specs.Lines.{report_of}

-- "Above 40,960 bytes it prints just "- 1"."
abbrev pub too_long : List ℕ
too_long = ascii "- 1\n"

-- on more answers than a schedule has no report is written
unfoldable pub reported : List ℕ → Summary → List ℕ
reported answers s = cond (ltb most_answers (length answers)) [] (report_of answers s)
