use mathlib.Core.Path.{◌∙◌}
use Rattle.cabinet.proofs.LentLaws.{no_length, a-length}
use Rattle.cabinet.proofs.lent.cabinet_telegram_length.Goals as goal

pub returns-then-answer_number-ne0 : goal.returns-then-answer_number-ne0
returns-then-answer_number-ne0 c = no_length _ _ _ (c.answer_number.ensures ∙ c.state_refusal.ensures) c.if-answer_number-ne0.true

pub returns : goal.returns
returns c = a-length _ _ _ _ _ _ (c.answer_number.ensures ∙ c.state_refusal.ensures) c.if-answer_number-ne0.false c.cabinet_of.ensures c.nth_telegram.ensures c.length_sent.ensures
