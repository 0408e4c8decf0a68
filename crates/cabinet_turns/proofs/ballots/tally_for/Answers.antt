use Rattle.cabinet_turns.specs.Ballots.{tally_for}
use borrow.Author.Tests.{eq-eqb, ne_eqb}
use Rattle.cabinet_turns.proofs.ballots.tally_for.Goals as goal

pub returns-then-b-x : goal.returns-then-b-x
unfolding tally_for
returns-then-b-x c = simp (eq-eqb _ _ c.if-b-x.true)

pub returns : goal.returns
unfolding tally_for
returns c = simp (ne_eqb _ _ c.if-b-x.false, c.new_tally.ensures)
