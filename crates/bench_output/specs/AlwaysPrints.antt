-- The program always prints: a buffer of `longest_output` bytes holds every output of every input. `longest_output` follows from the most
-- records of a schedule, the most controllers of a lock and the greatest length of each line (`Limits` of bench_report).
use Rattle.std.specs.Prelude.{ℕ, ◌≤◌, ◌≡◌, List, ◌++◌, length, drop}
use Rattle.text.specs.Writing.{fitted, fitted_length}
use Rattle.bench_report.specs.Limits.{longest_output}

-- of records alone (`output_of`) and of either form (`printed_of`)
pub record AlwaysPrints (output : List ℕ → List ℕ) : Type 0 where
  -- no output is longer, and none is empty
  pub longest : (input : List ℕ) → length (output input) ≤ longest_output
  pub some : (input : List ℕ) → 1 ≤ length (output input)
  -- so such a buffer gets the whole of it
  pub whole : (input buffer : List ℕ) → longest_output ≤ length buffer
      → (fitted_length (output input) buffer ≡ length (output input)) × (fitted (output input) buffer ≡ output input ++ drop (length (output input)) buffer)
