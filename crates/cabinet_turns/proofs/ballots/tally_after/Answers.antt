use Rattle.cabinet_turns.specs.Ballots.{tally_after}
use borrow.Author.Tests.{eq-eqb, ne_eqb}
use Rattle.cabinet_turns.proofs.ballots.tally_after.Goals as goal

pub returns-then-b-old : goal.returns-then-b-old
unfolding tally_after
returns-then-b-old c = simp (eq-eqb _ _ c.if-b-old.true)

pub returns : goal.returns
unfolding tally_after
returns c = simp (ne_eqb _ _ c.if-b-old.false)
