use Rattle.message_bytes.proofs.Framing.{in_body}
use Rattle.message_bytes.proofs.writing.write_body.Goals as goal

pub returns-in-Votes : goal.returns-in-Votes
returns-in-Votes c = let x = c.args in in_body x.body _ x.head.now x.sets.now x.x _ _ _ _ c.in-Votes.is c.write_parts.ensures

pub returns-in-Ballot : goal.returns-in-Ballot
returns-in-Ballot c = let x = c.args in in_body x.body _ x.head.now x.sets.now x.x _ _ _ _ c.in-Ballot.is c.write_parts-in-Ballot.ensures
