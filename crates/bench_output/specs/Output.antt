-- What the bench program prints. Document 01, "The bench program".
use Rattle.std.specs.Prelude.{ℕ, cond, List, length}
use Rattle.protocol.specs.declared.Bench.{Bench}
use Rattle.steps_back.specs.Claim.{bench}
use Rattle.bench_run.specs.Schedule.{acts}
use Rattle.bench_run.specs.Runs.{answers}
use Rattle.schedule_input.specs.Input.{either_form}
use Rattle.bench_report.specs.Limits.{is_too_long}
use Rattle.bench_report.specs.Lines.{report_of}
use Rattle.bench_report.specs.Report.{too_long}
use Rattle.bench_summary.specs.Summary.{summary_of}

-- the bench after the events and steps back that the bytes stand for
abbrev pub bench_after : List ℕ → Bench
bench_after s = bench (acts s)

-- "Above 40,960 bytes it prints just "- 1"."; else the answers, and that bench
unfoldable pub output_of : List ℕ → List ℕ
output_of s = cond (is_too_long (length s)) too_long (report_of (answers s) (summary_of (bench_after s)))

-- the same of a schedule in either form, and what is refused of a text: what the program prints
abbrev pub printed_of : List ℕ → List ℕ
printed_of s = either_form output_of s
