use mathlib.Core.Path.{◌∙◌}
use Rattle.controller.proofs.BallotSequence.{others-of}
use Rattle.controller.proofs.ballot_sequence.others.Goals as goal

pub returns : goal.returns
returns c = c.remove.ensures ∙ rw c.up_to.ensures (others-of _ _)
