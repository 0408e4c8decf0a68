use Rattle.message_bytes.proofs.Framing.{written_in}
use Rattle.message_bytes.proofs.write_telegram.Goals as goal

pub returns : goal.returns
returns c = written_in _ _ _ _ _ _ _ c.form_of-form.ensures c.fields_of.ensures c.question_in.ensures c.write_in.ensures
