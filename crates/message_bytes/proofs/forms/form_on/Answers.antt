use Rattle.message_record.specs.Telegrams.{form_for}
use borrow.Author.Tests.{eq-eqb, ne_eqb}
use Rattle.message_bytes.proofs.forms.form_on.Goals as goal

pub returns-then-length-eq-LONG_BALLOT_LENGTH : goal.returns-then-length-eq-LONG_BALLOT_LENGTH
unfolding form_for
returns-then-length-eq-LONG_BALLOT_LENGTH c = simp (eq-eqb _ _ c.if-length-eq-LONG_BALLOT_LENGTH.true)

pub returns-then-length-eq-LONG_LENGTH : goal.returns-then-length-eq-LONG_LENGTH
unfolding form_for
returns-then-length-eq-LONG_LENGTH c = simp (ne_eqb _ _ c.if-length-eq-LONG_BALLOT_LENGTH.false, eq-eqb _ _ c.if-length-eq-LONG_LENGTH.true, c.form_of_twenty.ensures)

pub returns : goal.returns
unfolding form_for
returns c = simp (ne_eqb _ _ c.if-length-eq-LONG_BALLOT_LENGTH.false, ne_eqb _ _ c.if-length-eq-LONG_LENGTH.false)
