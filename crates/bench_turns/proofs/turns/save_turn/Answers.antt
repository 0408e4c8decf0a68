use Rattle.protocol.specs.Steps.{keeping}
use Rattle.bench_turns.proofs.turns.save_turn.Goals as goal

pub returns : goal.returns
unfolding keeping
returns c = simp (c.identity.ensures, c.save-saved.ensures.answer)
