-- `line::call` meets its contract.
use Rattle.ground.specs.Lists.{put}
use Rattle.line.specs.Turns.{call_of}
use Rattle.line.proofs.call.Goals as goal

pub returns : goal.returns
unfolding call_of put
returns c = simp (← c.is_lock.ensures, c.if-not-is_lock.false)
