use Rattle.controller_rules.proofs.Joined.{vote-joined}
use Rattle.controller_rules.proofs.arrivals.vote_arrives.Goals as goal

pub returns : goal.returns
returns c =
    simp (c.phase_in-takes.ensures, c.learned-votes.ensures, c.nothing.ensures, c.received.ensures) (vote-joined _ _)
