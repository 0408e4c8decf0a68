-- `votes::contradictions` meets its contract.
use Rattle.votes.proofs.MemberLaws.{contradictions}
use Rattle.votes.proofs.contradictions.Goals as goal

pub returns : goal.returns
returns c = contradictions
