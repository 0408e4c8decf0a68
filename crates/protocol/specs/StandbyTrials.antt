-- Trials of stop, save and restore, and of one standing by. Document 01, "A controller's rules".
use Rattle.std.specs.Prelude.{ℕ, Bool, true, false, ◌&&◌, List, [], ◌∷◌, ◌++◌, eqb, option_to_list}
use Rattle.model.specs.declared.Kind.TheVariants.{Vote, Ack}
use Rattle.model.specs.declared.Outcome.{Outcome}
use Rattle.model.specs.declared.Outcome.TheVariants.{None, Stay, Move}
use Rattle.model.specs.declared.Checkpoint.{Checkpoint}
use Rattle.model.specs.declared.Event.{Event}
use Rattle.model.specs.declared.Event.TheVariants.{Lock, Order, Cast, Deliver, Timeout, Decide, Stop, Save, Restore}
use Rattle.protocol.specs.Benches.{new_bench, station}
use Rattle.protocol.specs.Steps.{run}
use Rattle.protocol.specs.Rows.{Trial, same, same_outcome}
use Rattle.protocol.specs.RowWords.{C, T, held, proposed, silent, putting, all_accepted}

-- 1 is saved, and both put Stay; then 1 is stopped and restored, with no outcome
abbrev standing : List Event
standing = Lock 2 1 false ∷ Order 1 ∷ Cast 1 true 500 ∷ Cast 2 true 250 ∷ Timeout 1 ∷ Timeout 2 ∷ Save 1 ∷ Timeout 1 ∷ Timeout 2 ∷ Stop 1 ∷ Restore 1 ∷ []

-- 1 is saved at position 0, decides Move and goes to 500, is stopped and restored with that checkpoint; 2 puts Move
abbrev returned : List Event
returned = Lock 2 1 false ∷ Order 1 ∷ Cast 1 true 500 ∷ Cast 2 true 250 ∷ Deliver 1 2 Vote ∷ Deliver 2 1 Vote ∷ Save 1 ∷ Timeout 1 ∷ Timeout 2 ∷ Deliver 2 1 Ack ∷ Timeout 1 ∷ Timeout 2
    ∷ Stop 1 ∷ Restore 1 ∷ []

unfoldable pub standby_trials : List Trial
standby_trials =
    -- "**Restore** brings a stopped controller to standing by, with the card's outcome": here none
    putting Stay standing (all_accepted 11) (C 9 None 0 ∷ C 3 None 0 ∷ []) (T 2 2 0 0) (held 0 0 ∷ proposed Stay 0 1 ∷ [])
    -- "One standing by notes outcomes": the arbiter's Stay
    ∷ putting Stay (standing ++ (Decide 1 false ∷ [])) (all_accepted 12) (C 9 Stay 0 ∷ C 3 None 0 ∷ []) (T 2 2 0 0) (held 0 0 ∷ proposed Stay 0 1 ∷ [])
    -- and Move; it "never moves": it stays at 500, where it stood before it was stopped
    ∷ putting Move returned (all_accepted 14) (C 9 None 500 ∷ C 3 None 0 ∷ []) (T 2 2 0 0) (held 0 0 ∷ proposed Move 0 1 ∷ [])
    ∷ putting Move (returned ++ (Decide 1 true ∷ [])) (all_accepted 15) (C 9 Move 500 ∷ C 3 None 0 ∷ []) (T 2 2 0 0) (held 0 0 ∷ proposed Move 0 1 ∷ [])
    -- "**Stop** ends everything, outcome included, but the gate's position", of one standing by too
    ∷ putting Stay (standing ++ (Stop 1 ∷ [])) (all_accepted 12) (C 8 None 0 ∷ C 3 None 0 ∷ []) (T 2 2 0 0) (held 0 0 ∷ proposed Stay 0 1 ∷ [])
    ∷ putting Move (returned ++ (Decide 1 true ∷ Stop 1 ∷ [])) (all_accepted 16) (C 8 None 500 ∷ C 3 None 0 ∷ []) (T 2 2 0 0) (held 0 0 ∷ proposed Move 0 1 ∷ [])
    -- "**Save** makes the card", of one standing by too: it has noted Stay, is saved, and so is restored with Stay
    ∷ putting Stay (standing ++ (Decide 1 false ∷ Save 1 ∷ Stop 1 ∷ Restore 1 ∷ [])) (all_accepted 15) (C 9 Stay 0 ∷ C 3 None 0 ∷ []) (T 2 2 0 0) (held 0 0 ∷ proposed Stay 0 1 ∷ [])
    -- not saved, it is restored with the checkpoint of before, and no outcome
    ∷ putting Stay (standing ++ (Decide 1 false ∷ Stop 1 ∷ Restore 1 ∷ [])) (all_accepted 14) (C 9 None 0 ∷ C 3 None 0 ∷ []) (T 2 2 0 0) (held 0 0 ∷ proposed Stay 0 1 ∷ [])
    -- "the bench keeps the newest per controller": 1 was saved at first without outcome, and a second time with Move
    ∷ putting Move (returned ++ (Decide 1 true ∷ Save 1 ∷ Stop 1 ∷ Restore 1 ∷ [])) (all_accepted 18) (C 9 Move 500 ∷ C 3 None 0 ∷ []) (T 2 2 0 0) (held 0 0 ∷ proposed Move 0 1 ∷ [])
    -- **New order**: "running and standing-by controllers begin at stage 0, running, without outcome. Stopped ones remain stopped."
    ∷ silent (standing ++ (Decide 1 false ∷ Decide 2 false ∷ Order 2 ∷ [])) (all_accepted 14) (C 0 None 0 ∷ C 0 None 0 ∷ []) (T 0 0 0 0) (held 0 0 ∷ held 0 0 ∷ [])
    ∷ silent (standing ++ (Stop 1 ∷ Decide 2 false ∷ Order 2 ∷ [])) (all_accepted 14) (C 8 None 0 ∷ C 0 None 0 ∷ []) (T 0 0 0 0) (held 0 0 ∷ held 0 0 ∷ [])
    -- and every gate stays where it stands: of one that ran, of one stopped, of one standing by
    ∷ silent (returned ++ (Decide 2 true ∷ Order 2 ∷ [])) (all_accepted 16) (C 0 None 500 ∷ C 0 None 250 ∷ []) (T 0 0 0 0) (held 0 0 ∷ held 0 0 ∷ [])
    ∷ silent (returned ++ (Stop 1 ∷ Decide 2 true ∷ Order 2 ∷ [])) (all_accepted 17) (C 8 None 500 ∷ C 0 None 250 ∷ []) (T 0 0 0 0) (held 0 0 ∷ held 0 0 ∷ [])
    -- also over a restore in that order, and a third one
    ∷ silent (returned ++ (Stop 1 ∷ Decide 2 true ∷ Order 2 ∷ Restore 1 ∷ Stop 2 ∷ Order 3 ∷ [])) (all_accepted 20) (C 0 None 500 ∷ C 8 None 250 ∷ []) (T 0 0 0 0) (held 0 0 ∷ held 0 0 ∷ [])
    ∷ []

-- the checkpoint (document 01: card) of a controller after some events
pub record CheckpointTrial : Type 0 where
  pub events : List Event
  pub who : ℕ
  pub checkpoint : Checkpoint

abbrev checkpoint : ℕ → ℕ → ℕ → Outcome → ℕ → ℕ → Checkpoint
checkpoint id n f outcome order position = record { id = id; n = n; f = f; outcome = outcome; order = order; position = position }

abbrev same_checkpoint : Checkpoint → Checkpoint → Bool
same_checkpoint x y = eqb x.id y.id && eqb x.n y.n && eqb x.f y.f && same_outcome x.outcome y.outcome && eqb x.order y.order && eqb x.position y.position

unfoldable pub has_checkpoint : CheckpointTrial → Bool
has_checkpoint r = same same_checkpoint (option_to_list (station (run new_bench r.events) r.who).saved) (r.checkpoint ∷ [])

unfoldable pub checkpoint_trials : List CheckpointTrial
checkpoint_trials =
    -- 1's first checkpoint: it is to go to 500, and stands at 0. It is kept over its move, its stop and its restore
    record { events = returned; who = 1; checkpoint = checkpoint 1 2 1 None 1 0 }
    -- "the bench keeps the newest": the second, with the outcome that it has noted, at 500
    ∷ record { events = returned ++ (Decide 1 true ∷ Save 1 ∷ []); who = 1; checkpoint = checkpoint 1 2 1 Move 1 500 }
    -- "per controller": 2's is its own
    ∷ record { events = returned ++ (Decide 1 true ∷ Save 1 ∷ Save 2 ∷ []); who = 1; checkpoint = checkpoint 1 2 1 Move 1 500 }
    ∷ record { events = returned ++ (Decide 1 true ∷ Save 1 ∷ Save 2 ∷ []); who = 2; checkpoint = checkpoint 2 2 1 None 1 0 }
    -- **New order**: "cards remain"
    ∷ record { events = returned ++ (Decide 1 true ∷ Save 1 ∷ Decide 2 true ∷ Order 7 ∷ []); who = 1; checkpoint = checkpoint 1 2 1 Move 1 500 }
    ∷ record { events = returned ++ (Decide 1 true ∷ Save 1 ∷ Decide 2 true ∷ Order 7 ∷ Save 1 ∷ []); who = 1; checkpoint = checkpoint 1 2 1 None 7 500 }
    ∷ []
