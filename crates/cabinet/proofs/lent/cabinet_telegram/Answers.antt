use mathlib.Core.Path.{◌∙◌}
use Rattle.cabinet.proofs.CallLaws.{refused-buffer, passed-buffer}
use Rattle.cabinet.proofs.LentLaws.{same_sent}
use Rattle.cabinet.specs.Calls.{telegram_number, telegram_bytes}
use Rattle.cabinet.proofs.lent.cabinet_telegram.Goals as goal

pub returns-then-refusal-ne0 : goal.returns-then-refusal-ne0
returns-then-refusal-ne0 c =
    let x = c.args in
    refused-buffer _ _ (telegram_number x.k x.out.now) (telegram_bytes x.k x.out.now) _ (c.answer_number-refusal.ensures ∙ c.state_refusal.ensures) c.if-refusal-ne0.true

pub returns : goal.returns
returns c =
    let x = c.args in
    passed-buffer _ _ _ (telegram_number x.k x.out.now) (telegram_bytes x.k x.out.now) _ _ _ (c.answer_number-refusal.ensures ∙ c.state_refusal.ensures) c.if-refusal-ne0.false c.cabinet_of.ensures
    (same_sent _ _ _ _ _ c.nth_telegram.ensures c.write_sent.ensures)
