-- Each word is the number of its field, by the contract of the call that widens it; `same_head` puts them together.
use mathlib.Core.Path.{ap, ◌∙◌}
use Rattle.model.specs.Numbers.{outcome_number}
use Rattle.cabinet_state.proofs.Heads.{same_head}
use Rattle.cabinet_state.specs.Words.{head_of}
use Rattle.cabinet_state.proofs.writing.head_of.Goals as goal

pub returns : goal.returns
unfolding head_of
returns c =
    c.head_from.ensures
    ∙ same_head _
    c.wide.ensures.0
    c.wide-2.ensures.0
    c.wide-3.ensures.0
    (c.wide-4.ensures.0 ∙ c.from.ensures)
    (c.wide-5.ensures.0 ∙ c.tag_of.ensures)
    (c.wide-6.ensures.0 ∙ c.phase_in.ensures)
    (c.wide-7.ensures.0 ∙ c.from-2.ensures ∙ ap outcome_number c.outcome_in.ensures)
    c.wide-8.ensures.0
    c.wide-9.ensures.0
    (c.wide-10.ensures.0 ∙ c.from-3.ensures)
    (c.wide-11.ensures.0 ∙ c.from-4.ensures)
