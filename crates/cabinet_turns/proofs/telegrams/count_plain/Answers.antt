use mathlib.Core.Path.{sym, ◌∙◌}
use Rattle.cabinet_turns.proofs.Nth.{size-all}
use Rattle.cabinet_turns.proofs.telegrams.count_plain.Goals as goal

pub returns : goal.returns
returns c =
    let x = c.args in
    let e = size-all x.me x.s in
    let w₁ = c.wide.ensures.0 ∙ c.size.ensures in
    let w₂ = c.wide-2.ensures.0 ∙ c.size-2.ensures in
    let w₃ = c.wide-3.ensures.0 ∙ c.size-3.ensures in
    let w₄ = c.wide-4.ensures.0 ∙ c.size-4.ensures in
    rw (w₁, w₂, w₃, w₄) (sym e)
