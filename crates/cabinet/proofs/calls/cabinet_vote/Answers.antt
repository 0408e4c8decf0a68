use mathlib.Core.Path.{◌∙◌}
use Rattle.std.proofs.Common.{rules}
use Rattle.cabinet_turns.specs.Turns.{voted}
use Rattle.cabinet.specs.Calls.{vote_number}
use Rattle.cabinet.proofs.calls.cabinet_vote.Goals as goal

pub returns : goal.returns
returns c =
    let x = c.args in
    let p = c.play.ensures (vote_number x.willing x.target) (voted x.willing x.target) (λ r e. search rules) (λ next e. search rules) in
    (c.answer_number.ensures ∙ p.0, p.1)
