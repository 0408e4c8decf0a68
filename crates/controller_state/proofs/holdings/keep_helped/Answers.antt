use Rattle.protocol.specs.Controllers.{keep_helped}
use Rattle.controller_state.proofs.holdings.keep_helped.Goals as goal

pub returns : goal.returns
unfolding keep_helped
returns c = simp (← c.join.ensures, c.agreed_or.ensures, c.insert.ensures, c.bump.ensures)
