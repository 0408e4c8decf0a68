use mathlib.Core.Path.{refl}
use mathlib.Core.List.{[], ◌∷◌}
use Rattle.records.specs.Promises.{AskedInSequence}
use Rattle.checkpoint_record.specs.Checkpoints.{about_checkpoint, checkpoints}
use Rattle.checkpoint_record.proofs.asked_in_sequence.Goals as goal

asked : AskedInSequence checkpoints (λ k. 1 ∷ 2 ∷ 3 ∷ 4 ∷ 7 ∷ 8 ∷ 11 ∷ []) (λ k. 1 ∷ 4 ∷ 7 ∷ 8 ∷ 11 ∷ [])
unfolding about_checkpoint
asked = record { at_reading = λ s. refl; at_writing = λ out a. refl }

pub returns : goal.returns
returns c = asked
