-- When the report fits the buffer, and what is written then.
use Prim.Native.Nat.{ℕ, ◌≤◌, ◌<◌}
use mathlib.Core.List.{List, []}
use mathlib.Core.Path.{◌≡◌}
use borrow.Author.Tests.{lt-ltb, le-ltb}
use lib.ListN.{length}
use Rattle.text.specs.Writing.{Put, fitted, fitted_length}
use Rattle.text.specs.WritingLaws.{nothing-fitted, all-fitted, fitted-nothing}
use Rattle.bench_report.specs.declared.Summary.{Summary}
use Rattle.bench_report.specs.Limits.{most_answers}
use Rattle.bench_report.specs.Lines.{report_of}
use Rattle.bench_report.specs.Report.{reported}

module _ (out answers : List ℕ) (s : Summary) where
  no-report : most_answers < length answers → reported answers s ≡ []
  unfolding reported
  no-report h = rw (lt-ltb most_answers (length answers) h)

  a-report : length answers ≤ most_answers → reported answers s ≡ report_of answers s
  unfolding reported
  a-report h = rw (le-ltb most_answers (length answers) h)

  pub too_many : most_answers < length answers → (0 ≡ fitted_length (reported answers s) out) × (out ≡ fitted (reported answers s) out)
  too_many h = rw (no-report h) (fitted-nothing out)

  pub too_long_lem : length answers ≤ most_answers → length out < length (report_of answers s)
      → (0 ≡ fitted_length (reported answers s) out) × (out ≡ fitted (reported answers s) out)
  too_long_lem h g = rw (a-report h) (nothing-fitted (report_of answers s) out g)

  pub written : {after : List ℕ} {r : ℕ} → length answers ≤ most_answers → length (report_of answers s) ≤ length out
      → Put out after 0 r (report_of answers s) → (r ≡ fitted_length (reported answers s) out) × (after ≡ fitted (reported answers s) out)
  written h g p = rw (a-report h) (all-fitted (report_of answers s) out g p)
