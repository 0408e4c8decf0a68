use mathlib.Core.Path.{◌≡◌, refl}
use mathlib.Core.Bool.{Bool, true, false, cond}
use Rattle.model.specs.declared.Outcome.TheVariants.{None}
use Rattle.protocol.specs.declared.Condition.TheVariants.{Stopped}
use Rattle.protocol.specs.declared.Controller.{Controller}
use Rattle.protocol.specs.Controllers.{is_stopped, in_phase, cleared}
use Rattle.protocol.specs.Calls.{renew}
use Rattle.controller.proofs.lifecycle.renew.Goals as goal

-- either way the condition alone differs
either : (stopped : Bool) (c : Controller) → cleared (cond stopped Stopped (in_phase 0 None)) c ≡ cond stopped (cleared Stopped c) (cleared (in_phase 0 None) c)
either true c = refl
either false c = refl

pub returns : goal.returns
unfolding renew
returns c = simp (c.renewed_condition.ensures, c.cleared.ensures, either (is_stopped c.args.c.condition) c.args.c)
