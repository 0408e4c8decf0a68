use mathlib.Core.Path.{refl}
use Rattle.std.proofs.lemmas.Result.{err_from_is_err_and}
use Rattle.model.specs.Questions.{first_no, unless}
use Rattle.cabinet_turns.specs.Ballots.{receive_asked}
use Rattle.cabinet_turns.proofs.ballots.receive_question.Goals as goal

pub returns-in_err-read : goal.returns-in_err-read
unfolding first_no unless receive_asked
returns-in_err-read g c =
    let p = err_from_is_err_and c.from_residual.result c.from_residual.ensures.1 in
    rw (p.1, p.2, c.in_err-read.was) refl

pub returns-in-Ok : goal.returns-in-Ok
unfolding receive_asked
returns-in-Ok g c = rw c.in_ok-read.was (rw c.in-Ok.is at c.telegram_question.ensures)

pub returns-in-Err : goal.returns-in-Err
unfolding receive_asked
returns-in-Err g c = rw (c.in_ok-read.was, c.of.ensures) (rw c.in-Err.is at c.telegram_question.ensures)
