use mathlib.Core.Path.{ap, ◌∙◌}
use Rattle.model.specs.Questions.{number}
use Rattle.cabinet_state.specs.LeaveLaws.{of_question}
use Rattle.cabinet.proofs.LentLaws.{same_left}
use Rattle.cabinet.proofs.calls.cabinet_begin.Goals as goal

pub returns : goal.returns
returns c =
    let p = same_left _ _ _ _ _ _ _ (ap number c.begin_question.ensures) c.begun.ensures (of_question _ _ _ _ _ c.leave.ensures) in
    (c.answer_number.ensures ∙ p.0, p.1)
