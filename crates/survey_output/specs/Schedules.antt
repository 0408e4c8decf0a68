-- The schedules that are run. Document 02, U13: "It runs generator numbers s to s + k − 1".
use Rattle.std.specs.Prelude.{ℕ}
use Rattle.protocol.specs.declared.Bench.{Bench}
use Rattle.steps_back.specs.Claim.{bench}
use Rattle.generator.specs.File.{file_of}
use Rattle.bench_run.specs.Schedule.{acts}
use Rattle.bench_report.specs.declared.Summary.{Summary}
use Rattle.bench_summary.specs.Summary.{summary_of}

-- the generator's file of a number, run on a new bench: the bench at its end, and what the bench program shows of it
abbrev pub bench_of : ℕ → ℕ → ℕ → ℕ → Bench
bench_of n f count g = bench (acts (file_of n f count g))

abbrev pub end_of : ℕ → ℕ → ℕ → ℕ → Summary
end_of n f count g = summary_of (bench_of n f count g)
