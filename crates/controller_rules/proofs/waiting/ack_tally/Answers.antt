use Rattle.protocol.specs.Rules.{ack_join}
use Rattle.controller_rules.proofs.waiting.ack_tally.Goals as goal

pub returns : goal.returns
unfolding ack_join
returns c = simp c.tally_all.ensures
