-- What the end of a schedule shows: who is stopped, who ended how, and how many messages at most.
use Prim.Native.Nat.{ℕ, zero, suc, ◌*◌, ◌≤◌}
use mathlib.Core.Path.{◌≡◌, refl, sym, ◌∙◌, ap, subst}
use mathlib.Core.Bool.{not}
use mathlib.Core.List.{List}
use native.Mathlib.Nat.{suc-mul}
use native.Mathlib.Omega.{arith}
use lib.Dec.{eqb}
use borrow.Author.Tests.{ne_eqb}
use Rattle.ground.specs.Limit.{limit}
use Rattle.ground.specs.Mask.{has}
use Rattle.ground.specs.Quantify.{count_to, count_le}
use Rattle.model.specs.declared.Event.{Event}
use Rattle.model.specs.declared.Kind.{Kind}
use Rattle.model.specs.declared.Kind.TheVariants.{Vote, Ack, Help, Helped}
use Rattle.protocol.specs.declared.Condition.{Condition}
use Rattle.protocol.specs.declared.Condition.TheVariants.{Running, Stopped, Standby}
use Rattle.protocol.specs.declared.Bench.{Bench}
use Rattle.protocol.specs.Controllers.{phase_in, is_stopped}
use Rattle.protocol.specs.Benches.{new_bench, controller, sent_by, of_kind}
use Rattle.protocol.specs.Steps.{run}
use Rattle.protocol.specs.Display.{stage_shown, sum_to, sent_count, message_count}
use Rattle.protocol.proofs.lists.Reach.{controllers-limit}
use Rattle.protocol.proofs.ranges.Reached.{reach}
use Rattle.bench_report.specs.declared.Row.{Row}
use Rattle.bench_summary.specs.Summary.{summary_of, shows}
use Rattle.generator.specs.File.{file_of}
use Rattle.steps_back.specs.Memory.{left}
use Rattle.steps_back.proofs.Moments.{as-left}
use Rattle.bench_run.specs.Schedule.{acts}
use Rattle.survey.specs.Ended.{is_present}
use Rattle.survey.specs.Surveys.{all_kinds}
use Rattle.survey_output.specs.Schedules.{bench_of, end_of}
use Rattle.survey_output.specs.Claim.{AsShown}
use Rattle.survey_output.specs.Bounds.{most_of_one}

-- a stage of 8 is shown of one that is stopped, and of no other: a running one's is at most 3
stage-of-stopped : (x : Condition) → phase_in x ≤ 3 → not (eqb (stage_shown x) 8) ≡ not (is_stopped x)
stage-of-stopped (Running p) h = rw (ne_eqb p.phase 8 (λ e. omega arith))
stage-of-stopped Stopped h = refl
stage-of-stopped (Standby o) h = refl

-- the bench at the end is that of the events left
stages-of : (n f count g i : ℕ) → phase_in (controller (bench_of n f count g) i).condition ≤ 3
stages-of n f count g i = subst (λ (b : Bench). phase_in (controller b i).condition ≤ 3) (sym (as-left (acts (file_of n f count g)))) (reach.stages (left (acts (file_of n f count g))) i)

pub all_shown : AsShown
all_shown = record {
  present = λ n f count g i. ap is_present (shows (bench_of n f count g) i) ∙ stage-of-stopped (controller (bench_of n f count g) i).condition (stages-of n f count g i);
  ended = λ n f count g i. ap (λ (r : Row). r.outcome) (shows (bench_of n f count g) i);
}

-- sums of numbers that are all small
sum_le : (m w : ℕ) (g : ℕ → ℕ) → ((i : ℕ) → g i ≤ w) → sum_to m g ≤ m * w
unfolding sum_to
sum_le zero w g h = omega arith
sum_le (suc m) w g h = simp suc-mul (omega (arith, sum_le m w g h, h (suc m)))

-- at most one message of a kind from a controller to a controller
few-of-kind : (es : List Event) (kind : Kind) → message_count (run new_bench es) kind ≤ limit * limit
unfolding message_count sent_count
few-of-kind es kind =
    let b = run new_bench es in
    let each : (i : ℕ) → count_to b.shared.n (has (of_kind kind (sent_by b i)).to) ≤ limit = λ i. omega (arith, count_le b.shared.n (has (of_kind kind (sent_by b i)).to), controllers-limit es) in
    omega (arith, sum_le b.shared.n limit (λ i. count_to b.shared.n (has (of_kind kind (sent_by b i)).to)) each, controllers-limit es)

few-messages : (es : List Event) → all_kinds (summary_of (run new_bench es)).messages ≤ most_of_one
unfolding summary_of
few-messages es = omega (arith, few-of-kind es Vote, few-of-kind es Ack, few-of-kind es Help, few-of-kind es Helped)

pub few-at-end : (n f count g : ℕ) → all_kinds (end_of n f count g).messages ≤ most_of_one
few-at-end n f count g = subst (λ (b : Bench). all_kinds (summary_of b).messages ≤ most_of_one) (sym (as-left (acts (file_of n f count g)))) (few-messages (left (acts (file_of n f count g))))
