-- THE CONSOLE SHOWS WHAT THE BENCH PROGRAM PRINTS of the same list of acts, whatever they are. `as_printed` in src/lib.rt has it as its contract; the proof is in proofs/.
-- That program prints `report_of answers (summary_of bench)`: `output_of` in crates/bench_output/specs/Output.antt.
use Rattle.std.specs.Prelude.{ℕ, ◌≤◌, ◌≡◌, cond, List, [], ◌∷◌, ◌++◌, eqb}
use Rattle.text.specs.Text.{decimal, line}
use Rattle.model.specs.declared.Act.{Act}
use Rattle.bench_report.specs.declared.Row.{Row}
use Rattle.bench_report.specs.Lines.{answer_lines}
use Rattle.bench_summary.specs.Summary.{summary_of}
use Rattle.steps_back.specs.Memory.{new_remembering}
use Rattle.steps_back.specs.Claim.{bench}
use Rattle.steps_back.specs.Trials.{answers_to}
use Rattle.trace.specs.Lines.{Line, Answered, Undone, Shows, Sent, Puts, Given}
use Rattle.trace.specs.Shown.{row_of}
use Rattle.trace.specs.Traces.{trace}

-- the lines with an index and an answer, without their words
abbrev pub answer_of : Line → List ℕ
answer_of (Answered k a) = line (decimal k ∷ decimal a ∷ [])
answer_of (Undone k) = []
answer_of (Shows k row) = []
answer_of (Sent e) = []
answer_of (Puts e) = []
answer_of (Given e) = []

unfoldable pub answers_in : List Line → List ℕ
answers_in [] = []
answers_in (l ∷ ls) = answer_of l ++ answers_in ls

-- the C line last shown of a controller, if any was: after what was shown before, some lines
pub data Last : Type 0 where
  none : Last
  last : Row → Last

abbrev pub last_after : ℕ → Last → Line → Last
last_after k x (Answered i a) = x
last_after k x (Undone i) = x
last_after k x (Shows i row) = cond (eqb i k) (last row) x
last_after k x (Sent e) = x
last_after k x (Puts e) = x
last_after k x (Given e) = x

unfoldable pub last_from : ℕ → Last → List Line → Last
last_from k x [] = x
last_from k x (l ∷ ls) = last_from k (last_after k x l) ls

abbrev pub last_shown : ℕ → List Line → Last
last_shown k ls = last_from k none ls

pub record AsPrinted : Type 0 where
  -- the lines with an index and an answer are those of the report, in its sequence;
  pub answers : (acts : List Act) → answers_in (trace acts) ≡ answer_lines (answers_to new_remembering acts)
  -- the C line last shown of each of 1 to n is the report's.
  pub lines : (acts : List Act) (k : ℕ) → 1 ≤ k → k ≤ (summary_of (bench acts)).n → last_shown k (trace acts) ≡ last (row_of (summary_of (bench acts)) k)
