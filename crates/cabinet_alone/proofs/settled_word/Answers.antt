use Rattle.cabinet_alone.proofs.Settled.{settled-word}
use Rattle.cabinet_alone.proofs.settled_word.Goals as goal

pub returns : goal.returns
returns c = settled-word
