use mathlib.Core.Path.{refl}
use Rattle.protocol.specs.BallotRules.{with_word}
use Rattle.ballot_rules.proofs.owners.with_word.Goals as goal

pub returns : goal.returns
unfolding with_word
returns c = refl
