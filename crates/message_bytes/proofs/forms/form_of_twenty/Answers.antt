use Rattle.message_record.specs.Telegrams.{form_of_twenty}
use borrow.Author.Tests.{eq-eqb, ne_eqb}
use Rattle.message_bytes.proofs.forms.form_of_twenty.Goals as goal

pub returns-then-mark-eq-SHORT_MARK : goal.returns-then-mark-eq-SHORT_MARK
unfolding form_of_twenty
returns-then-mark-eq-SHORT_MARK c = simp (eq-eqb _ _ c.if-mark-eq-SHORT_MARK.true)

pub returns : goal.returns
unfolding form_of_twenty
returns c = simp (ne_eqb _ _ c.if-mark-eq-SHORT_MARK.false)
