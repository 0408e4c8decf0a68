-- Each word is the number of its field, by the contract of the call that widens it; `same-ballots` puts them together.
use mathlib.Core.Path.{refl, ◌∙◌}
use Rattle.cabinet_state.proofs.Heads.{same-ballots}
use Rattle.cabinet_state.specs.Words.{ballots_of}
use Rattle.cabinet_state.proofs.writing.ballots_of.Goals as goal

pub returns : goal.returns
unfolding ballots_of
returns c =
    c.ballots_from.ensures
    ∙ same-ballots
    c.wide.ensures.0
    c.wide-2.ensures.0
    c.wide-3.ensures.0
    (c.wide-4.ensures.0 ∙ c.from.ensures)
    (c.wide-5.ensures.0 ∙ c.from-2.ensures)
    c.wide-6.ensures.0
    (c.wide-7.ensures.0 ∙ c.from-3.ensures)
    c.wide-8.ensures.0
    refl
    c.wide-9.ensures.0
    (c.wide-10.ensures.0 ∙ c.from-4.ensures)
    (c.wide-11.ensures.0 ∙ c.from-5.ensures)
    refl
