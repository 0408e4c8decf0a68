use Rattle.message_record.specs.BallotMessages.{tells_word}
use borrow.Author.Tests.{eq-eqb, ne_eqb}
use Rattle.message_record.proofs.ballots.tells_word.Goals as goal

pub returns-then-last-eq0 : goal.returns-then-last-eq0
unfolding tells_word
returns-then-last-eq0 c = simp (eq-eqb _ _ c.if-last-eq0.true, c.is_none.ensures)

pub returns-else-last-eq0 : goal.returns-else-last-eq0
unfolding tells_word
returns-else-last-eq0 c = simp (ne_eqb _ _ c.if-last-eq0.false)
