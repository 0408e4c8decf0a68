-- `trace_text::ballots::is_new_in` meets its contract.
use mathlib.Core.Bool.{not}
use mathlib.Core.Path.{sym, ◌∙◌, ap}
use Rattle.trace_text.proofs.News.{not-different, not-sent, is-sent}
use Rattle.trace_text.proofs.ballots.is_new_in.Goals as goal

pub returns-then-not-different_controllers : goal.returns-then-not-different_controllers
returns-then-not-different_controllers c = not-different _ _ _ _ _ _ _ (sym c.different_controllers.ensures ∙ c.if-not-different_controllers.true)

pub returns-then-was_sent_in : goal.returns-then-was_sent_in
returns-then-was_sent_in c = ap not c.was_sent_in-then-was_sent_in.ensures ∙ is-sent _ _ _ _ _ _ _ (sym c.different_controllers.ensures ∙ c.if-not-different_controllers.false) (sym c.was_sent_in.ensures ∙ c.if-was_sent_in.true)

pub returns : goal.returns
returns c = not-sent _ _ _ _ _ _ _ (sym c.different_controllers.ensures ∙ c.if-not-different_controllers.false) (sym c.was_sent_in.ensures ∙ c.if-was_sent_in.false)
