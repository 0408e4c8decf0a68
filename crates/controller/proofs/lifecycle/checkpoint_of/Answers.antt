use Rattle.protocol.specs.Calls.{checkpoint_of}
use Rattle.controller.proofs.lifecycle.checkpoint_of.Goals as goal

pub returns : goal.returns
unfolding checkpoint_of
returns c = simp c.outcome_in.ensures
