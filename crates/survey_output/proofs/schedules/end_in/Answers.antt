-- `survey_output::schedules::end_in` meets its contract: the buffer then holds the file, and the run is of its bytes.
use Prim.Native.Nat.{ℕ}
use mathlib.Core.Path.{◌∙◌, ap}
use lib.ListN.{length-replicate}
use Rattle.bench_report.specs.Limits.{most_answers}
use Rattle.bench_run.specs.declared.RunResult.{RunResult}
use Rattle.survey_output.proofs.Runs.{is_file, all-run}
use Rattle.survey_output.proofs.schedules.end_in.Goals as goal

pub returns : goal.returns
returns c =
    let pre = c.requires in
    let file = is_file _ _ _ _ pre.0 _ _ pre.1 c.generate.ensures.1 in
    ap (λ (r : RunResult). r.summary) c.run-r.ensures.result ∙ all-run _ _ _ _ pre.0 _ _ file (length-replicate {A = ℕ} most_answers 0)
