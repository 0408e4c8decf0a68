use Rattle.schedule_input.proofs.NothingLost.{nothing_lost}
use Rattle.schedule_input.proofs.nothing_lost.Goals as goal

pub returns : goal.returns
returns c = nothing_lost
