use mathlib.Core.Path.{◌∙◌}
use Rattle.std.proofs.Common.{rules}
use Rattle.cabinet_turns.specs.Turns.{ordered}
use Rattle.cabinet.specs.Calls.{order_number}
use Rattle.cabinet.proofs.calls.cabinet_order.Goals as goal

pub returns : goal.returns
returns c =
    let x = c.args in
    let p = c.play.ensures (order_number x.order) (ordered x.order) (λ r e. search rules) (λ next e. search rules) in
    (c.answer_number.ensures ∙ p.0, p.1)
