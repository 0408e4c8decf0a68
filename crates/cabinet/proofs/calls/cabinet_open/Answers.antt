use mathlib.Core.Path.{◌∙◌}
use Rattle.std.proofs.Common.{rules}
use Rattle.cabinet_turns.specs.Ballots.{opened}
use Rattle.cabinet.specs.Calls.{open_number}
use Rattle.cabinet.proofs.calls.cabinet_open.Goals as goal

pub returns : goal.returns
returns c =
    let x = c.args in
    let p = c.play.ensures (open_number x.b) (opened x.b) (λ r e. search rules) (λ next e. search rules) in
    (c.answer_number.ensures ∙ p.0, p.1)
