use Rattle.protocol.specs.Controllers.{keep_ack}
use Rattle.controller_state.proofs.holdings.keep_ack.Goals as goal

pub returns : goal.returns
unfolding keep_ack
returns c = simp (c.put.ensures, c.insert.ensures, c.bump.ensures)
