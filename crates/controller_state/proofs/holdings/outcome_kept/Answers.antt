use borrow.Author.Tests.{eq-eqb, ne_eqb}
use Rattle.controller_state.proofs.holdings.outcome_kept.Goals as goal

pub returns-then-saved-order : goal.returns-then-saved-order
returns-then-saved-order c = simp (eq-eqb _ _ c.if-saved-order.true)

pub returns : goal.returns
returns c = simp (ne_eqb _ _ c.if-saved-order.false)
