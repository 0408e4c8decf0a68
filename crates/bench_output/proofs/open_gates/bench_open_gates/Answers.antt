-- `bench_output::open_gates::bench_open_gates` meets its contract: the run's bench is that of the definition, and the number is its field.
use Prim.Native.Nat.{ℕ}
use mathlib.Core.Path.{◌≡◌, sym, ap, ◌∙◌}
use mathlib.Core.Bool.{true, false}
use lib.ListN.{length, replicate, length-replicate}
use Rattle.bench_run.specs.declared.RunResult.{RunResult}
use Rattle.bench_report.specs.Limits.{most_answers, is_too_long}
use Rattle.bench_output.specs.OpenGates.{open_gates_after}
use Rattle.bench_output.proofs.Texts.{all-run}
use Rattle.bench_output.proofs.open_gates.bench_open_gates.Goals as goal

pub returns-then-is_too_long : goal.returns-then-is_too_long
unfolding open_gates_after
returns-then-is_too_long c =
    let s = c.args.s.now in
    let e : is_too_long (length s) ≡ true = sym c.is_too_long.ensures ∙ c.if-is_too_long.true in
    sym (rw e)

pub returns : goal.returns
unfolding open_gates_after
returns c =
    let s = c.args.s.now in
    let e : is_too_long (length s) ≡ false = sym c.is_too_long.ensures ∙ c.if-is_too_long.false in
    let ran = c.run-r.ensures.result ∙ all-run s e (replicate most_answers 0) (length-replicate {A = ℕ} most_answers 0) in
    ap (λ (r : RunResult). r.open_gates) ran ∙ sym (rw e)
