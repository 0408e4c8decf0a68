use Rattle.cabinet_state.proofs.ReadBack.{encoding}
use Rattle.cabinet_state.proofs.encoding.Goals as goal

pub returns : goal.returns
returns c = encoding
