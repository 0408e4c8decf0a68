use mathlib.Core.Path.{refl}
use mathlib.Core.List.{[], ◌∷◌}
use Rattle.records.specs.Promises.{AskedInSequence}
use Rattle.event_record.specs.Events.{events}
use Rattle.event_record.proofs.event.asked_in_sequence.Goals as goal

asked : AskedInSequence events (λ k. 1 ∷ 2 ∷ 3 ∷ []) (λ k. 1 ∷ [])
asked = record { at_reading = λ s. refl; at_writing = λ out a. refl }

pub returns : goal.returns
returns c = asked
