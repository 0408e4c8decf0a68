use Rattle.cabinet_turns.specs.Shown.{shown}
use Rattle.cabinet_turns.proofs.display.shown.Goals as goal

pub returns : goal.returns
unfolding shown
returns c = simp (← c.stage_shown.ensures, ← c.wide-stage.ensures.0, ← c.outcome_in.ensures, ← c.from.ensures, ← c.wide-outcome.ensures.0, ← c.from-2.ensures, ← c.wide-put.ensures.0, ← c.settled.ensures, ← c.from-3.ensures, ← c.wide-settled_word.ensures.0, c.wide-highest.ensures.0)
