use mathlib.Core.Path.{◌∙◌}
use Rattle.std.proofs.Common.{rules}
use Rattle.cabinet_turns.specs.Turns.{decided}
use Rattle.cabinet.specs.Calls.{decide_number}
use Rattle.cabinet.proofs.calls.cabinet_decide.Goals as goal

pub returns : goal.returns
returns c =
    let x = c.args in
    let p = c.play.ensures (decide_number x.to_move) (decided x.to_move) (λ r e. search rules) (λ next e. search rules) in
    (c.answer_number.ensures ∙ p.0, p.1)
