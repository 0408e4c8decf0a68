use borrow.Author.Tests.{eq-eqb, ne_eqb}
use Rattle.ballot_rules.proofs.rows.was_put.Goals as goal

pub returns-then-owner-i : goal.returns-then-owner-i
returns-then-owner-i c = simp (← c.owner.ensures, eq-eqb _ _ c.if-owner-i.true, c.is_none.ensures)

pub returns : goal.returns
returns c = simp (← c.owner.ensures, ne_eqb _ _ c.if-owner-i.false)
