use mathlib.Core.Path.{◌∙◌}
use Rattle.cabinet.proofs.CallLaws.{refused-buffer, passed-buffer}
use Rattle.cabinet.specs.Calls.{card_number, card_bytes}
use Rattle.cabinet.proofs.lent.cabinet_save.Goals as goal

pub returns-then-refusal-ne0 : goal.returns-then-refusal-ne0
returns-then-refusal-ne0 c =
    let out = c.args.card.now in
    refused-buffer _ _ (card_number out) (card_bytes out) _ (c.answer_number-refusal.ensures ∙ c.state_refusal.ensures) c.if-refusal-ne0.true

pub returns : goal.returns
returns c =
    let out = c.args.card.now in
    passed-buffer _ _ _ (card_number out) (card_bytes out) _ _ _ (c.answer_number-refusal.ensures ∙ c.state_refusal.ensures) c.if-refusal-ne0.false c.cabinet_of.ensures c.write_card.ensures
