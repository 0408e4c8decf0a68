use Rattle.text.proofs.Wrote.{wrote_then, wrote-text}
use Rattle.schedule_text.proofs.forms.put_spaced_name.Goals as goal

pub returns : goal.returns
returns c = wrote_then c.byte.ensures (wrote-text c.bytes.ensures c.nth_word.ensures)
