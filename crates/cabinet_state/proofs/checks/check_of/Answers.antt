-- After k turns the check is that of the first k words (`check_to`), so at the end that of all before the check word.
use Prim.Native.Nat.{ℕ}
use mathlib.Core.Path.{◌≡◌, refl, ap, ◌∙◌}
use native.Mathlib.Omega.{arith}
use Rattle.cabinet_state.specs.Words.{check_place, check_to, column_in}
use Rattle.cabinet_state.specs.FillLaws.{check-next}
use Rattle.cabinet_state.proofs.checks.check_of.Goals as goal

pub loop-k-init : goal.loop-k-init
unfolding check_to
loop-k-init c = refl

pub loop-k-preserved : goal.loop-k-preserved
loop-k-preserved c = c.mixed-acc.ensures ∙ check-next _ _ _ _ c.loop-k.invariant c.column.ensures

pub returns : goal.returns
returns c =
    let e : c.loop-k.k ≡ check_place = omega arith in
    let x = c.args in
    c.loop-k.invariant ∙ ap (λ (m : ℕ). check_to m (column_in x.head x.ballots x.sets)) e
