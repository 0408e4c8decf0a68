use Rattle.message_record.specs.BallotMessages.{ballot_suits}
use borrow.Author.Tests.{eq-eqb, ne_eqb}
use Rattle.message_record.proofs.ballots.ballot_suits.Goals as goal

pub returns-then-set-ne0 : goal.returns-then-set-ne0
unfolding ballot_suits
returns-then-set-ne0 c = simp (ne_eqb _ _ c.if-set-ne0.true)

pub returns-then-set-ne0-2 : goal.returns-then-set-ne0-2
unfolding ballot_suits
returns-then-set-ne0-2 c = simp (eq-eqb _ _ c.if-set-ne0.false, ne_eqb _ _ c.if-set-ne0-2.true)

pub returns : goal.returns
unfolding ballot_suits
returns c = simp (eq-eqb _ _ c.if-set-ne0.false, eq-eqb _ _ c.if-set-ne0-2.false, c.tells_for_kind.ensures)
