-- `bench_output::render` meets its contract: the run's answers and bench are those of the definition, and the report on them is the output.
use Prim.Native.Nat.{ℕ, ◌≤◌}
use mathlib.Core.Path.{◌≡◌, sym, ap, ◌∙◌}
use mathlib.Core.Bool.{true, false}
use mathlib.Core.List.{List}
use native.Mathlib.Omega.{arith}
use lib.ListN.{length, take, replicate, length-replicate}
use lib.Seq.{length-take-le}
use Rattle.bench_run.specs.declared.RunResult.{RunResult}
use Rattle.bench_run.specs.Schedule.{count}
use Rattle.bench_run.specs.Runs.{answers, end_of, RunAsDefined}
use Rattle.text.specs.WritingLaws.{same-fitted, rendered}
use Rattle.bench_report.specs.declared.Summary.{Summary}
use Rattle.bench_report.specs.Limits.{most_answers, is_too_long}
use Rattle.bench_report.specs.Report.{reported}
use Rattle.bench_summary.specs.Summary.{summary_of}
use Rattle.bench_output.specs.Output.{bench_after, output_of}
use Rattle.bench_output.proofs.Texts.{is_too-long, few-answers, few, counted, all-run, all-answered, is-report}
use Rattle.std.proofs.Common.{rules}
use Rattle.bench_output.proofs.render.Goals as goal

abbrev empty : List ℕ
empty = replicate most_answers 0

room : length empty ≡ most_answers
room = length-replicate {A = ℕ} most_answers 0

-- the run: its result, and the answers in their array
module _ (s : List ℕ) (r : RunResult) (buffer : List ℕ) (d : RunAsDefined s empty r buffer) (short : is_too_long (length s) ≡ false) where
  ran : r ≡ end_of true (count s) (bench_after s)
  ran = d.result ∙ all-run s short empty room

  all-counted : r.count ≡ count s
  all-counted = ap (λ (x : RunResult). x.count) ran

  within : length buffer ≡ length empty → r.count ≤ length buffer
  within l = omega (arith, all-counted, counted s short empty room, l)

  given : take r.count buffer ≡ answers s
  given = ap (λ (n : ℕ). take n buffer) all-counted ∙ ap (take (count s)) d.buffer ∙ all-answered s short empty room

  printed : reported (take r.count buffer) r.summary ≡ output_of s
  printed =
      let summary : r.summary ≡ summary_of (bench_after s) = ap (λ (x : RunResult). x.summary) ran in
      ap (λ (x : List ℕ). reported x r.summary) given
      ∙ ap (λ (x : Summary). reported (answers s) x) summary
      ∙ few (answers s) (summary_of (bench_after s)) (few-answers s short)
      ∙ sym (is-report s short)

pub returns-then-is_too_long : goal.returns-then-is_too_long
returns-then-is_too_long c =
    let s = c.args.s.now in
    let e = is_too-long s (sym c.is_too_long.ensures ∙ c.if-is_too_long.true) in
    rendered _ _ (c.write_too_long.ensures.value ∙ rw e, c.write_too_long.ensures.out_after ∙ rw e)

pub slice_bounds-answers-end : goal.slice_bounds-answers-end
slice_bounds-answers-end c = within _ _ _ c.run-r.ensures (sym c.is_too_long.ensures ∙ c.if-is_too_long.false) (search rules)

pub slice_bounds-write_report-end : goal.slice_bounds-write_report-end
slice_bounds-write_report-end c = sym (length-take-le _ _ (within _ _ _ c.run-r.ensures (sym c.is_too_long.ensures ∙ c.if-is_too_long.false) (search rules)))

pub returns : goal.returns
returns c =
    let text = printed _ _ _ c.run-r.ensures (sym c.is_too_long.ensures ∙ c.if-is_too_long.false) in
    rendered _ _ (same-fitted _ text (c.write_report.ensures.value, c.write_report.ensures.out_after))
