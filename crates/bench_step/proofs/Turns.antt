-- Behind the questions a controller's own tests hold, and what it answers is the rule's: the turn of an accepted event is its effect.
use Prim.Native.Nat.{ℕ}
use mathlib.Core.Path.{◌≡◌}
use mathlib.Core.Bool.{Bool, true, false≢true}
use Rattle.model.specs.QuestionLaws.{AllYes}
use Rattle.model.specs.Numbers.{word_of}
use Rattle.model.specs.declared.Event.TheVariants.{Decide, Stop, Restore}
use Rattle.protocol.specs.declared.Condition.TheVariants.{Stopped, Standby}
use Rattle.protocol.specs.declared.Identity.{Identity}
use Rattle.protocol.specs.declared.Controller.{Controller}
use Rattle.protocol.specs.declared.Sent.{Sent}
use Rattle.protocol.specs.declared.Station.{Station}
use Rattle.protocol.specs.declared.Shared.{Shared}
use Rattle.protocol.specs.Controllers.{is_stopped, cleared, conclude}
use Rattle.protocol.specs.Ballots.{new_ballots}
use Rattle.protocol.specs.Rules.{becomes}
use Rattle.protocol.specs.Calls.{restore}
use Rattle.protocol.specs.Events.{restore_from, answer_to}
use Rattle.protocol.specs.Questions.{questions_of, facts_of}
use Rattle.protocol.specs.Steps.{decided_as, answering, effect_of, effect}
use Rattle.protocol.proofs.view.Performed.{decide-is, stop_is}
use Rattle.bench_turns.specs.Turns.{outcome_saved}
use Rattle.std.specs.Prelude.{Option, Some, None, is_some}
use Rattle.model.specs.declared.Checkpoint.{Checkpoint}

restore-is : (me : Identity) (saved : Option Checkpoint) (c : Controller) → is_stopped c.condition ≡ true → is_some saved ≡ true
    → restore_from me saved c ≡ becomes (cleared (Standby (outcome_saved saved me.order)) c)
unfolding restore_from restore
restore-is me None c h k = absurd (false≢true k)
restore-is me (Some p) c h k = rw h

module _ (m : Shared) (sent : Sent) (s : Station) (i : ℕ) where
  pub turn-decides : (give : Bool → Bool) (w : Bool) → AllYes (questions_of (facts_of m new_ballots (Decide i w) s sent true give true) (Decide i w))
      → answering (decided_as m w) s (becomes (conclude s.controller (word_of w))) ≡ effect m (Decide i w) sent s
  unfolding effect_of answer_to
  turn-decides give w y = rw (decide-is m.n m.f w s.controller y.1.1.1.0 y.1.1.1.1.0)

  pub turn-stops : AllYes (questions_of (facts_of m new_ballots (Stop i) s sent true (λ w. true) true) (Stop i)) → answering m s (becomes (cleared Stopped s.controller)) ≡ effect m (Stop i) sent s
  unfolding effect_of answer_to
  turn-stops y = rw (stop_is m.n m.f s.controller y.1.1.1.0)

  pub turn_restores : AllYes (questions_of (facts_of m new_ballots (Restore i) s sent true (λ w. true) true) (Restore i))
      → answering m s (becomes (cleared (Standby (outcome_saved s.saved m.order)) s.controller)) ≡ effect m (Restore i) sent s
  unfolding effect_of answer_to
  turn_restores y = rw (restore-is _ s.saved s.controller y.1.1.1.0 y.1.1.1.1.0)
