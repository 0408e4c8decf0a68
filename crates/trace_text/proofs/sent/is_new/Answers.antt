-- `trace_text::sent::is_new` meets its contract.
use Rattle.trace_text.proofs.sent.is_new.Goals as goal

pub returns-then-has : goal.returns-then-has
returns-then-has c = simp (← c.has.ensures, c.if-has.true, c.has-then-has.ensures)

pub returns : goal.returns
returns c = simp (← c.has.ensures, c.if-has.false)
