-- `survey::ended::any_present` meets its contract. The invariant: of the first i controllers none is present.
use Rattle.std.specs.Prelude.{ℕ, ◌+◌, ◌≡◌, Bool, true, false, refl}
use Rattle.std.proofs.Common.{sym, ◌∙◌, ap, arith, add-one}
use Rattle.ground.specs.Lists.{nth}
use Rattle.ground.specs.Quantify.{any_to, any_of}
use Rattle.bench_report.specs.declared.Row.{Row}
use Rattle.survey.specs.Ended.{is_present, row_of, any_present}
use Rattle.survey.proofs.ended.any_present.Goals as goal

pub loop-i-init : goal.loop-i-init
unfolding any_to
loop-i-init c = refl

pub returns-then-is_present : goal.returns-then-is_present
unfolding any_present nth
returns-then-is_present c =
    let here : is_present c.row_at.result ≡ true = sym c.is_present.ensures ∙ c.if-is_present.true in
    sym (any_of c.args.end.n (λ k. is_present (row_of c.args.end k)) (c.loop-i.i + 1) (omega arith) (omega arith) (rw add-one (rw c.row_at.ensures at here)))

pub loop-i-preserved : goal.loop-i-preserved
unfolding any_to nth
loop-i-preserved c =
    let here : is_present c.row_at.result ≡ false = sym c.is_present.ensures ∙ c.if-is_present.false in
    rw (add-one, rw c.row_at.ensures at here) c.loop-i.invariant

pub returns : goal.returns
unfolding any_present
returns c = let e : c.loop-i.i ≡ c.args.end.n = omega arith in sym (rw e at c.loop-i.invariant)
