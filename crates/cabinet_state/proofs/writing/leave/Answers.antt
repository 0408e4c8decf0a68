use mathlib.Core.Path.{ap}
use Rattle.std.proofs.lemmas.Result.{err_from_is_err_and}
use Rattle.model.specs.Refusals.{reply_by}
use Rattle.cabinet_state.proofs.Leaving.{wrong_size, stopped, left}
use Rattle.cabinet_state.proofs.writing.leave.Goals as goal

pub returns-then-state-ne-WORDS : goal.returns-then-state-ne-WORDS
returns-then-state-ne-WORDS g c = wrong_size _ _ _ c.if-state-ne-WORDS.true c.of.ensures

pub returns-in_err-asked : goal.returns-in_err-asked
returns-in_err-asked g c =
    let p = err_from_is_err_and c.from_residual.result c.from_residual.ensures.1 in
    rw (p.1, p.2) (stopped _ _ _ c.if-state-ne-WORDS.false (ap (reply_by g.Q.Numbered.number) c.in_err-asked.was))

pub returns : goal.returns
returns g c = left _ _ _ _ c.if-state-ne-WORDS.false (ap (reply_by g.Q.Numbered.number) c.in_ok-asked.was) c.write.ensures
