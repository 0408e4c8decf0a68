-- `drop_if` meets its contract: both tests are the definition's, of the vote set that the list has of j.
use mathlib.Core.Path.{sym, ◌∙◌, ap}
use Rattle.votes.specs.Joining.{contradicts}
use Rattle.votes.specs.declared.VoteSet.{VoteSet}
use Rattle.protocol.specs.Controllers.{drop_if}
use Rattle.controller_state.proofs.holdings.drop_if.Goals as goal

pub returns-then-not-has : goal.returns-then-not-has
unfolding drop_if
returns-then-not-has c = rw (sym c.has.ensures ∙ c.if-not-has.true)

pub returns-then-not-contradicts : goal.returns-then-not-contradicts
unfolding drop_if
returns-then-not-contradicts c =
    let start = c.args in
    rw (
      sym c.has.ensures ∙ c.if-not-has.false,
      ap (λ (x : VoteSet). contradicts x start.s) (sym c.set_of.ensures) ∙ sym c.contradicts.ensures ∙ c.if-not-contradicts.true,
    )

pub returns : goal.returns
unfolding drop_if
returns c =
    let start = c.args in
    rw (
      sym c.has.ensures ∙ c.if-not-has.false,
      ap (λ (x : VoteSet). contradicts x start.s) (sym c.set_of.ensures) ∙ sym c.contradicts.ensures ∙ c.if-not-contradicts.false,
      c.remove.ensures,
      c.saturating_sub.ensures,
    )
