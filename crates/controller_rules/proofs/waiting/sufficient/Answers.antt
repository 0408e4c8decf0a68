use Rattle.protocol.specs.Rules.{sufficient}
use Rattle.controller_rules.proofs.waiting.sufficient.Goals as goal

pub returns-then-c : goal.returns-then-c
unfolding sufficient
returns-then-c c = simp (c.if-c.true, c.counts_suffice.ensures)

pub returns : goal.returns
unfolding sufficient
returns c = simp c.if-c.false
