use Rattle.message_bytes.proofs.forms.length_of.Goals as goal

pub returns-in-Votes : goal.returns-in-Votes
returns-in-Votes c = simp (c.in-Votes.is, c.plain_length.ensures)

pub returns-in-Ballot : goal.returns-in-Ballot
returns-in-Ballot c = simp (c.in-Ballot.is, c.ballot_length.ensures)
