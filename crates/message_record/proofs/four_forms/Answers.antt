use Rattle.message_record.proofs.Sentences.{forms}
use Rattle.message_record.proofs.four_forms.Goals as goal

pub returns : goal.returns
returns c = forms
