-- `ground::remove` meets its contract, by what `insert` ensures.
use Rattle.ground.specs.Mask.{remove}
use Rattle.ground.proofs.mask.remove.Goals as goal

pub returns : goal.returns
unfolding remove
returns c = simp c.insert.ensures
