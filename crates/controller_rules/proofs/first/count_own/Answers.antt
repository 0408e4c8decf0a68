use Rattle.protocol.specs.Rules.{count_own}
use Rattle.controller_rules.proofs.first.count_own.Goals as goal

pub returns-then-counts_own : goal.returns-then-counts_own
unfolding count_own
returns-then-counts_own c = simp (← c.counts_own.ensures, c.if-counts_own.true, c.keep_ack.ensures)

pub returns : goal.returns
unfolding count_own
returns c = simp (← c.counts_own.ensures, c.if-counts_own.false)
