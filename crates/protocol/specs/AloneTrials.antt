-- Trials of a controller alone in its cabinet, where nobody puts the bench's questions to a call before it: one at a wrong stage or in a wrong condition changes
-- nothing, and its answer says so. Document 01, "A controller's rules". Which calls are taken, and what is then shown of the controller.
use Rattle.std.specs.Prelude.{ℕ, Bool, true, false, ◌&&◌, List, [], ◌∷◌, ◌++◌}
use Rattle.std.specs.Bool.{beq}
use Rattle.model.specs.declared.Kind.TheVariants.{Ack}
use Rattle.model.specs.declared.Outcome.{Outcome}
use Rattle.model.specs.declared.Outcome.TheVariants.{None, Stay, Move}
use Rattle.model.specs.declared.Checkpoint.{Checkpoint}
use Rattle.protocol.specs.declared.Controller.{Controller}
use Rattle.protocol.specs.declared.Identity.{Identity}
use Rattle.protocol.specs.Controllers.{outcome}
use Rattle.protocol.specs.Rules.{is_taken}
use Rattle.protocol.specs.Sequence.{members}
use Rattle.protocol.specs.Display.{stage_shown}
use Rattle.protocol.specs.Alone.{Call, voting, receiving, timing-out, deciding, stopping, restoring, renewing, Cabinet, answer_in, called, fresh_cabinet, alone}
use Rattle.protocol.specs.Rows.{Line, Inside, same, same_line, same_inside, message}
use Rattle.protocol.specs.RowWords.{C, held, proposed, waits, minus}

pub record AloneTrial : Type 0 where
  pub me : Identity
  pub calls : List Call
  -- of each call, is it taken
  pub taken : List Bool
  -- what its C line would show after them, and what it does not show
  pub line : Line
  pub inside : Inside

unfoldable pub taken_of : Identity → Cabinet → List Call → List Bool
taken_of me x [] = []
taken_of me x (k ∷ ks) = is_taken (answer_in me x k).reception ∷ taken_of me (called me x k) ks

abbrev line_alone : Controller → Line
line_alone c = record { stage = stage_shown c.condition; outcome = outcome c; position = c.gate.position }

abbrev inside_alone : ℕ → Controller → Inside
inside_alone n c = record { cnt = c.acks.cnt.0; cnt-help = c.helped.cnt_help.0; callers = members n c.help.callers; waits = c.help.waiting; proposal = c.proposal }

unfoldable pub stands_as : AloneTrial → Bool
stands_as r = same beq (taken_of r.me (fresh_cabinet r.me) r.calls) r.taken
    && same_line (line_alone (alone r.me r.calls)) r.line
    && same_inside (inside_alone r.me.n (alone r.me r.calls)) r.inside

-- controller 1 or 3 of a lock of three with one backup, in order 1
abbrev one : List Call → List Bool → Line → Inside → AloneTrial
one calls taken line inside = record { me = record { n = 3; f = 1; id = 1; order = 1 }; calls = calls; taken = taken; line = line; inside = inside }

abbrev three : List Call → List Bool → Line → Inside → AloneTrial
three calls taken line inside = record { me = record { n = 3; f = 1; id = 3; order = 1 }; calls = calls; taken = taken; line = line; inside = inside }

-- a checkpoint of controller 1, with an outcome and of an order, its gate at 70
abbrev saved : Outcome → ℕ → Checkpoint
saved o order = record { id = 1; n = 3; f = 1; outcome = o; order = order; position = 70 }

-- 1 votes for 500 and has both its timeouts: it puts Stay by its own acknowledgement
abbrev proposes : List Call
proposes = voting true 500 ∷ timing-out ∷ timing-out ∷ []

abbrev all_taken3 : List Bool
all_taken3 = true ∷ true ∷ true ∷ []

unfoldable pub alone_trials : List AloneTrial
alone_trials =
    -- **Vote** "(stage 0)": a second one is passed over, and the target remains that of the first
    one (voting true 500 ∷ voting true 700 ∷ []) (true ∷ false ∷ []) (C 1 None 0) (held 0 0)
    ∷ one (voting true 500 ∷ voting true 700 ∷ timing-out ∷ timing-out ∷ deciding true ∷ []) (true ∷ false ∷ true ∷ true ∷ true ∷ []) (C 3 Move 500) (proposed Stay 1 0)
    -- **Bell**: none at stage 0, and no third one. 3 waits, and counts its own answer once
    ∷ one (timing-out ∷ []) (false ∷ []) (C 0 None 0) (held 0 0)
    ∷ one (proposes ++ (timing-out ∷ [])) (all_taken3 ++ (false ∷ [])) (C 3 None 0) (proposed Stay 1 0)
    ∷ three (voting true 30 ∷ timing-out ∷ timing-out ∷ []) (true ∷ true ∷ false ∷ []) (C 3 None 0) (waits 0 1)
    -- **Arbiter's word**: at stage 3, if running
    ∷ one (deciding true ∷ []) (false ∷ []) (C 0 None 0) (held 0 0)
    ∷ one (voting true 500 ∷ deciding true ∷ []) (true ∷ false ∷ []) (C 1 None 0) (held 0 0)
    ∷ one (voting true 500 ∷ timing-out ∷ deciding true ∷ []) (true ∷ true ∷ false ∷ []) (C 2 None 0) (held 1 0)
    ∷ one (proposes ++ (deciding true ∷ [])) (all_taken3 ++ (true ∷ [])) (C 3 Move 500) (proposed Stay 1 0)
    -- "becomes the outcome if there is none": another word after it changes neither the outcome nor the position
    ∷ one (proposes ++ (deciding true ∷ deciding false ∷ [])) (all_taken3 ++ (true ∷ true ∷ [])) (C 3 Move 500) (proposed Stay 1 0)
    ∷ one (proposes ++ (deciding false ∷ deciding true ∷ [])) (all_taken3 ++ (true ∷ true ∷ [])) (C 3 Stay 0) (proposed Stay 1 0)
    -- of one standing by too, which never moves; a stopped one takes none
    ∷ one (proposes ++ (stopping ∷ restoring (saved None 1) ∷ deciding true ∷ deciding false ∷ [])) (all_taken3 ++ (true ∷ true ∷ true ∷ true ∷ [])) (C 9 Move 0) (held 0 0)
    ∷ one (proposes ++ (stopping ∷ restoring (saved Stay 1) ∷ deciding true ∷ [])) (all_taken3 ++ (true ∷ true ∷ true ∷ [])) (C 9 Stay 0) (held 0 0)
    ∷ one (proposes ++ (stopping ∷ deciding true ∷ [])) (all_taken3 ++ (true ∷ false ∷ [])) (C 8 None 0) (held 0 0)
    -- **Stop**: a stopped one is not stopped again
    ∷ one (stopping ∷ stopping ∷ []) (true ∷ false ∷ []) (C 8 None 0) (held 0 0)
    -- **Restore** "brings a stopped controller to standing by": not one that runs, nor one that stands by. "The gate's position stays what it is"
    ∷ one (proposes ++ (restoring (saved Move 1) ∷ [])) (all_taken3 ++ (false ∷ [])) (C 3 None 0) (proposed Stay 1 0)
    ∷ one (stopping ∷ restoring (saved Stay 1) ∷ restoring (saved Move 1) ∷ []) (true ∷ true ∷ false ∷ []) (C 9 Stay 0) (held 0 0)
    -- "with the card's outcome if the card is of this order, else none"
    ∷ one (proposes ++ (deciding true ∷ stopping ∷ restoring (saved Move 1) ∷ [])) (all_taken3 ++ (true ∷ true ∷ true ∷ [])) (C 9 Move 500) (held 0 0)
    ∷ one (proposes ++ (deciding true ∷ stopping ∷ restoring (saved Move 2) ∷ [])) (all_taken3 ++ (true ∷ true ∷ true ∷ [])) (C 9 None 500) (held 0 0)
    -- one standing by takes no vote and no timeout
    ∷ one (stopping ∷ restoring (saved None 1) ∷ voting true 500 ∷ timing-out ∷ []) (true ∷ true ∷ false ∷ false ∷ []) (C 9 None 0) (held 0 0)
    -- **New order**: the gate goes to its new target from where it stands. "Stopped ones remain stopped."
    ∷ one (proposes ++ (deciding true ∷ renewing 2 ∷ voting true (minus 250) ∷ timing-out ∷ timing-out ∷ deciding true ∷ []))
    (all_taken3 ++ (true ∷ true ∷ true ∷ true ∷ true ∷ true ∷ [])) (C 3 Move (minus 250)) (proposed Stay 1 0)
    ∷ one (proposes ++ (deciding true ∷ stopping ∷ renewing 2 ∷ voting true 700 ∷ [])) (all_taken3 ++ (true ∷ true ∷ true ∷ false ∷ [])) (C 8 None 500) (held 0 0)
    -- an acknowledgement of the order before is passed over, one of the new order is kept
    ∷ one (renewing 2 ∷ receiving (message 3 1 Ack 2 1 2 2) ∷ []) (true ∷ false ∷ []) (C 0 None 0) (held 0 0)
    ∷ one (renewing 2 ∷ receiving (record { kind = Ack; n = 3; f = 1; from = 2; to = 1; order = 2; votes = record { known = 2; willing = 2 } }) ∷ []) (true ∷ true ∷ []) (C 0 None 0) (held 1 0)
    ∷ []
