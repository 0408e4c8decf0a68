use mathlib.Core.Path.{ap, ◌∙◌}
use mathlib.Core.Bool.{not}
use mathlib.Core.List.{[], ◌∷◌}
use Rattle.model.specs.Questions.{ask, first_no}
use Rattle.protocol.specs.declared.Answer.{Answer}
use Rattle.protocol.specs.Rules.{is_contradicted}
use Rattle.cabinet_turns.specs.Ballots.{telegram_asked}
use Rattle.cabinet_turns.proofs.ballots.message_question.Goals as goal

pub returns : goal.returns
unfolding telegram_asked
returns c = c.contradiction.ensures ∙ ap (λ (a : Answer). first_no (ask 24 (not (is_contradicted a.reception)) ∷ [])) c.receive.ensures
