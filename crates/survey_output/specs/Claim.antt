-- What is counted of a schedule is of its bench: the report goes by what the bench program shows, and that says who is stopped and who ended how.
-- `as_shown` in src/lib.rt has it as its contract.
use Rattle.std.specs.Prelude.{ℕ, ◌≡◌, not}
use Rattle.protocol.specs.Controllers.{is_stopped, outcome}
use Rattle.protocol.specs.Benches.{controller}
use Rattle.survey.specs.Ended.{row_of, is_present}
use Rattle.survey_output.specs.Schedules.{bench_of, end_of}

pub record AsShown : Type 0 where
  -- "every controller not stopped": one standing by is not stopped
  pub present : (n f count g i : ℕ) → is_present (row_of (end_of n f count g) i) ≡ not (is_stopped (controller (bench_of n f count g) i).condition)
  -- "ended Move, likewise Stay"
  pub ended : (n f count g i : ℕ) → (row_of (end_of n f count g) i).outcome ≡ outcome (controller (bench_of n f count g) i)
