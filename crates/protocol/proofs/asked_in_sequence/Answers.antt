-- `protocol::asked_in_sequence` meets its contract: the numbers are read off the tables of questions.
use mathlib.Core.Path.{refl}
use Rattle.protocol.specs.declared.Bench.{Bench}
use Rattle.protocol.specs.AskedInSequence.{AskedInSequence}
use Rattle.protocol.proofs.asked_in_sequence.Goals as goal

asked : (b : Bench) → AskedInSequence b
asked b = record {
  lock = λ n f own. refl;
  order = λ o. refl;
  vote = λ i w t. refl;
  deliver = λ i j kind. refl;
  timeout = λ i. refl;
  decide = λ i w. refl;
  stop = λ i. refl;
  save = λ i. refl;
  restore = λ i. refl;
  open-ballot = λ i b. refl;
  carry = λ i j kind b. refl;
}

pub returns : goal.returns
returns c = asked
