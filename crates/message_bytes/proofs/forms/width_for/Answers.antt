use Rattle.message_record.specs.Telegrams.{width_for}
use borrow.Author.Tests.{le-leb, lt-leb}
use Rattle.message_bytes.proofs.forms.width_for.Goals as goal

pub returns-then-n-le-SHORT_LIMIT : goal.returns-then-n-le-SHORT_LIMIT
unfolding width_for
returns-then-n-le-SHORT_LIMIT c = simp (le-leb _ _ c.if-n-le-SHORT_LIMIT.true)

pub returns : goal.returns
unfolding width_for
returns c = simp (lt-leb _ _ c.if-n-le-SHORT_LIMIT.false)
