use Rattle.controller_rules.proofs.Joined.{first-joined}
use Rattle.controller_rules.proofs.first.first_timeout.Goals as goal

pub returns : goal.returns
returns c = simp (c.count_own.ensures, c.acknowledge.ensures) (first-joined _ _ _ _)
