use mathlib.Core.Path.{◌∙◌}
use Rattle.std.proofs.Common.{rules}
use Rattle.cabinet_turns.specs.Turns.{timed_out}
use Rattle.cabinet.specs.Calls.{timeout_number}
use Rattle.cabinet.proofs.calls.cabinet_timeout.Goals as goal

pub returns : goal.returns
returns c =
    let x = c.args in
    let p = c.play.ensures timeout_number timed_out (λ r e. search rules) (λ next e. search rules) in
    (c.answer_number.ensures ∙ p.0, p.1)
