use Rattle.protocol.specs.Rules.{becomes}
use Rattle.controller_state.proofs.answers.becomes.Goals as goal

pub returns : goal.returns
unfolding becomes
returns c = simp (c.nothing.ensures, c.sending.ensures)
