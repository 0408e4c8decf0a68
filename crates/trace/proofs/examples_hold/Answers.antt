use Rattle.trace.proofs.Computed.{examples}
use Rattle.trace.proofs.examples_hold.Goals as goal

pub returns : goal.returns
returns c = examples
