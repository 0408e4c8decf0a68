use Rattle.text.proofs.Wrote.{wrote_then}
use Rattle.text.proofs.writer.Writer.signed_field.Goals as goal

pub returns : goal.returns
returns c = wrote_then c.byte.ensures c.signed.ensures
