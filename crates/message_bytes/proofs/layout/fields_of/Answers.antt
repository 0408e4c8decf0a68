use Rattle.message_record.specs.Telegrams.{fields_of}
use Rattle.message_bytes.proofs.layout.fields_of.Goals as goal

pub returns-in-Plain : goal.returns-in-Plain
unfolding fields_of
returns-in-Plain c = simp (c.in-Plain.is, c.plain_fields.ensures)

pub returns-in-OfBallot : goal.returns-in-OfBallot
unfolding fields_of
returns-in-OfBallot c = simp (c.in-OfBallot.is, c.ballot_fields.ensures)
