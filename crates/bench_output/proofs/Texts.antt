-- The two texts: the line for a schedule that is too long, and the report; and how long they can be.
use Prim.Native.Nat.{ℕ, ◌≤◌}
use mathlib.Core.Path.{◌≡◌, sym, subst}
use mathlib.Core.Bool.{true, false}
use mathlib.Core.List.{List}
use native.Mathlib.Omega.{arith}
use borrow.Author.Tests.{le-leb, le-ltb, ltb-false}
use lib.ListN.{length, drop, take}
use lib.Seq.{take_at}
use Rattle.ground.specs.Tests.{by_cond}
use Rattle.text.specs.Writing.{fitted_length}
use Rattle.text.specs.WritingLaws.{fitted-whole}
use Rattle.model.specs.declared.Event.{Event}
use Rattle.protocol.specs.declared.Bench.{Bench}
use Rattle.protocol.specs.Benches.{new_bench}
use Rattle.protocol.specs.Steps.{run}
use Rattle.protocol.proofs.lists.Reach.{controllers-limit}
use Rattle.steps_back.specs.Memory.{left}
use Rattle.steps_back.proofs.Moments.{as-left}
use Rattle.bench_run.specs.Schedule.{count, acts}
use Rattle.bench_run.specs.Runs.{end_of, answers, has_room, run_of, answered}
use Rattle.bench_run.proofs.Records.{length-answers}
use Rattle.bench_report.specs.declared.Summary.{Summary}
use Rattle.bench_report.specs.Limits.{longest_schedule, most_answers, is_too_long, longest_report, longest_output}
use Rattle.bench_report.specs.Lines.{report_of}
use Rattle.bench_report.specs.Report.{too_long, reported}
use Rattle.bench_report.proofs.Room.{report-length, report-some}
use Rattle.bench_summary.specs.Summary.{summary_of}
use Rattle.schedule_input.specs.Room.{either_fits, either-some}
use Rattle.bench_output.specs.Output.{bench_after, output_of, printed_of}
use Rattle.bench_output.specs.AlwaysPrints.{AlwaysPrints}

-- a report of few answers is written as any text is
pub few : (ans : List ℕ) (s : Summary) → length ans ≤ most_answers → reported ans s ≡ report_of ans s
unfolding reported
few ans s h = rw (le-ltb most_answers (length ans) h)

-- a schedule that is not too long: its records, the run, the report
module _ (s : List ℕ) (h : is_too_long (length s) ≡ false) where
  short : length s ≤ longest_schedule
  unfolding is_too_long
  short = ltb-false longest_schedule (length s) h

  few-records : count s ≤ most_answers
  unfolding count
  few-records = omega (arith, short)

  pub few-answers : length (answers s) ≤ most_answers
  few-answers = rw (length-answers s (count s)) few-records

  pub is-report : output_of s ≡ report_of (answers s) (summary_of (bench_after s))
  unfolding output_of
  is-report = rw h

  -- with room for as many answers
  module _ (out : List ℕ) (l : length out ≡ most_answers) where
    room : has_room s out ≡ true
    room = le-leb (count s) (length out) (omega (arith, few-records))

    pub counted : count s ≤ length out
    counted = omega (arith, few-records)

    pub all-run : run_of s out ≡ end_of true (count s) (bench_after s)
    unfolding run_of
    all-run = rw room

    pub all-answered : take (count s) (answered s out) ≡ answers s
    unfolding answered
    all-answered = rw room (take_at (answers s) (drop (count s) out) (count s) (length-answers s (count s)))

pub is_too-long : (s : List ℕ) → is_too_long (length s) ≡ true → output_of s ≡ too_long
unfolding output_of
is_too-long s h = rw h

-- how long they are: no list of events leaves a bench with more controllers than a lock may have
report-limit : (answers : List ℕ) (es : List Event) → length answers ≤ most_answers → length (report_of answers (summary_of (run new_bench es))) ≤ longest_output
unfolding summary_of
report-limit answers es h =
    let r : length (report_of answers (summary_of (run new_bench es))) ≤ longest_report (length answers) (run new_bench es).shared.n = report-length answers (summary_of (run new_bench es)) in
    omega (arith, controllers-limit es)

longest : (s : List ℕ) → length (output_of s) ≤ longest_output
unfolding output_of
longest s =
    by_cond (λ (t : List ℕ). length t ≤ longest_output) (is_too_long (length s)) too_long (report_of (answers s) (summary_of (bench_after s)))
    (λ _. omega arith)
    (λ h. subst (λ (b : Bench). length (report_of (answers s) (summary_of b)) ≤ longest_output) (sym (as-left (acts s))) (report-limit (answers s) (left (acts s)) (few-answers s h)))

some : (s : List ℕ) → 1 ≤ length (output_of s)
unfolding output_of
some s =
    by_cond (λ (t : List ℕ). 1 ≤ length t) (is_too_long (length s)) too_long (report_of (answers s) (summary_of (bench_after s)))
    (λ _. omega arith)
    (λ _. report-some (answers s) (summary_of (bench_after s)))

pub always : AlwaysPrints output_of
always = record { longest = longest; some = some; whole = λ s out h. fitted-whole (output_of s) out (omega (arith, longest s)) }

-- of a schedule in either form
longest_either : (s : List ℕ) → length (printed_of s) ≤ longest_output
longest_either s = either_fits output_of longest_output (omega arith) (λ r _. longest r) s

some_either : (s : List ℕ) → 1 ≤ length (printed_of s)
some_either s = either-some output_of some s

pub always_either : AlwaysPrints printed_of
always_either = record { longest = longest_either; some = some_either; whole = λ s out h. fitted-whole (printed_of s) out (omega (arith, longest_either s)) }

-- such a buffer gets the whole output, so the answer is the output's length, which lies within the buffer
pub within-longest : (input buffer after : List ℕ) (r : ℕ) → length buffer ≡ longest_output → r ≡ fitted_length (printed_of input) buffer → length after ≡ length buffer → r ≤ length after
within-longest input buffer after r e p l = omega (arith, (always_either.whole input buffer (omega arith)).0, longest_either input)
