use Rattle.message_record.specs.Telegrams.{fields_in}
use Rattle.message_bytes.proofs.layout.fields_in.Goals as goal

pub returns : goal.returns
unfolding fields_in
returns c =
    rw (c.votes_in-votes.ensures, c.more_in-more.ensures, c.number4.ensures)
