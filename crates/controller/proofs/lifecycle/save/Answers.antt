use Rattle.protocol.specs.Calls.{save}
use Rattle.protocol.proofs.CallLaws.{save-of}
use Rattle.controller.proofs.lifecycle.save.Goals as goal

pub returns-then-is_present : goal.returns-then-is_present
unfolding save
returns-then-is_present c = save-of _ _ _ (simp (← c.is_present.ensures, c.if-is_present.true, c.checkpoint_of.ensures))

pub returns : goal.returns
unfolding save
returns c = save-of _ _ _ (simp (← c.is_present.ensures, c.if-is_present.false))
