use Rattle.protocol.specs.Steps.{renewed}
use Rattle.bench_turns.proofs.turns.renewed.Goals as goal

pub returns : goal.returns
unfolding renewed
returns c = simp (c.renew.ensures, c.unsent_all.ensures)
