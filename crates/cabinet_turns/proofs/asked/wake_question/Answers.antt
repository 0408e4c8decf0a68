use mathlib.Core.Path.{refl}
use Rattle.std.proofs.lemmas.Result.{err_from_is_err_and}
use Rattle.model.specs.Questions.{first_no, unless}
use Rattle.cabinet_turns.specs.Asked.{wake_asked}
use Rattle.cabinet_turns.proofs.asked.wake_question.Goals as goal

pub returns-in_err-card : goal.returns-in_err-card
unfolding first_no unless wake_asked
returns-in_err-card g c =
    let p = err_from_is_err_and c.from_residual.result c.from_residual.ensures.1 in
    rw (p.1, p.2, c.in_err-card.was) refl

pub returns-in-Ok : goal.returns-in-Ok
unfolding wake_asked
returns-in-Ok g c = rw c.in_ok-card.was (rw c.in-Ok.is at c.card_question.ensures)

pub returns-in-Err : goal.returns-in-Err
unfolding wake_asked
returns-in-Err g c = rw (c.in_ok-card.was, c.of.ensures) (rw c.in-Err.is at c.card_question.ensures)
