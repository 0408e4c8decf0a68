use Rattle.message_bytes.proofs.Framing.{none-there, four-there}
use Rattle.message_bytes.proofs.layout.more_in.Goals as goal

pub returns-in-Votes : goal.returns-in-Votes
returns-in-Votes c =
    let x = c.args in
    none-there x.width x.body x.s.now _ c.in-Votes.is c.no_more.ensures

pub returns-in-Ballot : goal.returns-in-Ballot
returns-in-Ballot c =
    let x = c.args in
    four-there x.width x.body x.s.now _ _ c.in-Ballot.is c.plain_length.ensures c.more_at.ensures
