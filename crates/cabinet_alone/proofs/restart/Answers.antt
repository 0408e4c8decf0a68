use Rattle.cabinet_alone.proofs.Restarts.{restart}
use Rattle.cabinet_alone.proofs.restart.Goals as goal

pub returns : goal.returns
returns c = restart
