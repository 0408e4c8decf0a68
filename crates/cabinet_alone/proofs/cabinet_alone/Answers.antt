use Rattle.cabinet_alone.proofs.Theorem.{carried}
use Rattle.cabinet_alone.proofs.cabinet_alone.Goals as goal

pub returns : goal.returns
returns c = carried c.encoding.ensures c.controller_alone.ensures
