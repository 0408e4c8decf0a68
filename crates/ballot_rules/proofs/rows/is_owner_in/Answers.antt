use borrow.Author.Tests.{eq-eqb, ne_eqb}
use Rattle.ballot_rules.proofs.rows.is_owner_in.Goals as goal

pub returns-then-owner-k : goal.returns-then-owner-k
returns-then-owner-k c = simp (← c.owner.ensures, eq-eqb _ _ c.if-owner-k.true, c.has.ensures)

pub returns : goal.returns
returns c = simp (← c.owner.ensures, ne_eqb _ _ c.if-owner-k.false)
