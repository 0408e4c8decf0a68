use Rattle.protocol.specs.Rules.{verdict}
use Rattle.controller_rules.proofs.waiting.verdict.Goals as goal

pub returns : goal.returns
unfolding verdict
returns c = simp (c.unanimous.ensures, c.word_of.ensures)
