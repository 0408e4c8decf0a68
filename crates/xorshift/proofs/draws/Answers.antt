use Rattle.xorshift.proofs.XorshiftLaws.{draws}
use Rattle.xorshift.proofs.draws.Goals as goal

pub returns : goal.returns
returns c = draws
