-- The file of each number is generated and run: none is refused, and there is room for every answer.
use Prim.Native.Nat.{ℕ, ◌+◌, ◌*◌, ◌≤◌, ◌<◌}
use mathlib.Core.Path.{◌≡◌, sym, ◌∙◌, ap}
use mathlib.Core.Bool.{true, not}
use mathlib.Core.List.{List}
use native.Mathlib.Omega.{arith}
use lib.Dec.{eqb, leb}
use lib.ListN.{length}
use borrow.Author.Tests.{le-leb, ne_eqb}
use Rattle.ground.specs.Tests.{and_i}
use Rattle.model.specs.Questions.{accepted}
use Rattle.model.specs.QuestionLaws.{yes-all}
use Rattle.event_record.specs.Events.{event_length}
use Rattle.generator.specs.File.{file_of, most_drawn, asked, refusal_of, generated}
use Rattle.generator.specs.Claim.{records_in}
use Rattle.generator.specs.Output.{longest_output}
use Rattle.generator.proofs.OutputLaws.{limits}
use Rattle.generator.proofs.FileLaws.{length_file}
use Rattle.generator.proofs.ReplyLaws.{file-reply}
use Rattle.steps_back.specs.Claim.{bench}
use Rattle.bench_run.specs.Schedule.{count, acts}
use Rattle.bench_run.specs.Runs.{run_of}
use Rattle.bench_report.specs.Limits.{most_answers}
use Rattle.bench_summary.specs.Summary.{summary_of}
use Rattle.survey.proofs.Record.{Accepted}
use Rattle.survey_output.specs.Schedules.{end_of}

-- the generator refuses no number of an accepted record
pub generates : (n f c s k j : ℕ) → Accepted n f c s k → j < k → refusal_of n f c (s + j) ≡ accepted
unfolding refusal_of
generates n f c s k j a l =
    let start : not (eqb (s + j) 0) ≡ true = rw (ne_eqb (s + j) 0 (λ e. omega (arith, a.numbers.start))) in
    yes-all (asked n f c (s + j)) (a.sizes, (and_i (not (eqb (s + j) 0)) (leb c most_drawn) start (le-leb c most_drawn a.drawn), tt))

module _ (n f c g : ℕ) (ok : refusal_of n f c g ≡ accepted) where
  -- the file fits its buffer
  pub file_fits : (r : ℕ) → r ≡ event_length * records_in n c → r ≤ longest_output
  file_fits r e = let l = limits n f c g ok in omega (arith, e, l.0, l.1)

  -- and a buffer as long holds it then
  pub is_file : (out after : List ℕ) → length out ≡ event_length * records_in n c → after ≡ generated n f c g out → after ≡ file_of n f c g
  is_file out after l q = q ∙ sym (file-reply n f c g out ok (l ∙ sym (length_file n f c g))).1

  -- its run
  pub all-run : (s out : List ℕ) → s ≡ file_of n f c g → length out ≡ most_answers → (run_of s out).summary ≡ end_of n f c g
  unfolding run_of count
  all-run s out e l =
      let short : length s ≤ longest_output = file_fits (length s) (ap length e ∙ length_file n f c g) in
      let room : leb (count s) (length out) ≡ true = le-leb (count s) (length out) (omega (arith, short, l)) in
      rw room (ap (λ (x : List ℕ). summary_of (bench (acts x))) e)

-- the buffer holds the files of an accepted record
pub buffer-holds : (n f c s k r : ℕ) → Accepted n f c s k → r ≡ event_length * records_in n c → r ≤ longest_output
buffer-holds n f c s k r a e = file_fits n f c (s + 0) (generates n f c s k 0 a a.numbers.some) r e
