use Rattle.message_record.specs.Telegrams.{form_of}
use Rattle.message_bytes.proofs.forms.form_of.Goals as goal

pub returns : goal.returns
unfolding form_of
returns c = simp (← c.size_of.ensures, ← c.width_for.ensures, c.body_of.ensures)
