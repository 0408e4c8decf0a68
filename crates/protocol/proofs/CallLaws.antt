-- Whatever equals the definition's answer to a save is what is promised of it.
use Rattle.std.specs.Prelude.{◌≡◌, refl, Bool, true, false, cond, ◌||◌, [], ◌∷◌, Option, Some, None, option_to_list}
use Rattle.model.specs.declared.Checkpoint.{Checkpoint}
use Rattle.protocol.specs.declared.Identity.{Identity}
use Rattle.protocol.specs.declared.Controller.{Controller}
use Rattle.protocol.specs.Controllers.{runs, does_stand_by}
use Rattle.protocol.specs.Calls.{checkpoint_of, save, saved_number, SaveOf}

number_of : (up : Bool) (p : Checkpoint) → saved_number (cond up (Some p) None) ≡ cond up 0 15
number_of true p = refl
number_of false p = refl

values_of : (up : Bool) (p : Checkpoint) → option_to_list (cond up (Some p) None) ≡ cond up (p ∷ []) []
values_of true p = refl
values_of false p = refl

pub save-of : (me : Identity) (c : Controller) (r : Option Checkpoint) → r ≡ save me c → SaveOf me c r
unfolding save
save-of me c r e =
    rw e (record { answer = refl; number = number_of (runs c || does_stand_by c) (checkpoint_of me c); values = values_of (runs c || does_stand_by c) (checkpoint_of me c) })
