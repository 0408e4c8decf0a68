use Rattle.records.proofs.FrameLaws.{listed-value}
use Rattle.message_record.specs.Telegrams.{telegram_of}
use Rattle.message_bytes.proofs.layout.telegram_of.Goals as goal

pub returns-in_ok-message_of-in-Votes : goal.returns-in_ok-message_of-in-Votes
unfolding telegram_of
returns-in_ok-message_of-in-Votes c = let v = listed-value _ _ _ c.in_ok-message_of-in-Votes.ensures in rw (c.in-Votes.is, v.0, v.1)

pub returns-in_ok-ballot_message_of-in-Ballot : goal.returns-in_ok-ballot_message_of-in-Ballot
unfolding telegram_of
returns-in_ok-ballot_message_of-in-Ballot c = let v = listed-value _ _ _ c.in_ok-ballot_message_of-in-Ballot.ensures in rw (c.in-Ballot.is, v.0, v.1)
