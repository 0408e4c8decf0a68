use mathlib.Core.Path.{refl}
use Rattle.std.proofs.lemmas.Result.{err_from_is_err_and}
use Rattle.model.specs.RefusalLaws.{never_zero}
use Rattle.cabinet_state.specs.LeaveLaws.{of_question}
use Rattle.cabinet.proofs.CallLaws.{refused, passed}
use Rattle.cabinet.proofs.calls.play.Goals as goal

pub returns-in_err-state_refusal : goal.returns-in_err-state_refusal
returns-in_err-state_refusal g c q next asks turns =
    let p = err_from_is_err_and c.from_residual.result c.from_residual.ensures.1 in
    rw (p.1, p.2) (refused _ q next _ (rw c.in_err-state_refusal.was at c.state_refusal.ensures) (never_zero _))

pub returns : goal.returns
returns g c q next asks turns =
    passed _ _ q next 0 _ _ _ (rw c.in_ok-state_refusal.was at c.state_refusal.ensures) refl
    (asks _ (rw c.cabinet_of-s.ensures at c.question.ensures)) (turns _ (rw c.cabinet_of-s.ensures at c.turn.ensures)) (of_question _ _ _ _ _ c.leave.ensures)
