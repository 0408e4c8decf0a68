use Prim.Native.Nat.{◌<◌}
use mathlib.Core.Path.{ap, ◌∙◌}
use native.Mathlib.Omega.{arith}
use Rattle.records.specs.Codec.{form_length}
use Rattle.message_record.specs.declared.MessageBody.{MessageBody}
use Rattle.message_record.specs.declared.MessageBody.TheVariants.{Votes, Ballot}
use Rattle.message_record.specs.declared.MessageWidth.{MessageWidth}
use Rattle.message_record.specs.declared.MessageWidth.TheVariants.{Short, Long}
use Rattle.message_record.specs.declared.TelegramForm.{TelegramForm}
use Rattle.message_record.specs.Telegrams.{formed, telegram_form}
use Rattle.message_bytes.proofs.forms.telegram_length.Goals as goal

in-byte : (width : MessageWidth) (body : MessageBody) → form_length (telegram_form (formed width body)) < 256
in-byte Short Votes = omega arith
in-byte Short Ballot = omega arith
in-byte Long Votes = omega arith
in-byte Long Ballot = omega arith

pub returns : goal.returns
returns c =
    let e = c.length_of.ensures in
    (e ∙ ap (λ (k : TelegramForm). form_length (telegram_form k)) c.form_of-form.ensures, rw e (in-byte c.form_of-form.result.width c.form_of-form.result.body))
