use Rattle.text.proofs.Wrote.{wrote-text}
use Rattle.model.specs.Questions.{first_no, unless}
use Rattle.records.specs.Codec.{write_reply, writes}
use Rattle.generator.proofs.file.put_record.Goals as goal

pub returns : goal.returns
unfolding writes write_reply first_no unless
returns c = wrote-text c.bytes.ensures c.write_event.ensures.1
