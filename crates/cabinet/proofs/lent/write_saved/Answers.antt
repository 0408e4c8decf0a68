use Rattle.std.proofs.Common.{◌∙◌, ap}
use Rattle.model.specs.Questions.{number}
use Rattle.cabinet.proofs.LentLaws.{saved-none, saved-some}
use Rattle.cabinet.proofs.lent.write_saved.Goals as goal

pub returns-in-None : goal.returns-in-None
returns-in-None c = saved-none _ _ c.in-None.is

pub returns-in-Some : goal.returns-in-Some
returns-in-Some c = saved-some _ _ _ _ _ c.in-Some.is (c.answer_number.ensures ∙ ap number c.write_checkpoint.ensures.0, c.write_checkpoint.ensures.1)
