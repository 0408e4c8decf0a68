-- `dues::sheet::lockage_at` meets its contract.
use Rattle.dues.specs.Sheet.{lockage_at}
use Rattle.dues.proofs.sheet.lockage_at.Goals as goal

pub returns : goal.returns
unfolding lockage_at
returns c = simp c.number2.ensures
