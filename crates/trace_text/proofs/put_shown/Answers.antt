-- `trace_text::put_shown` meets its contract.
use mathlib.Core.List.{append-nil}
use mathlib.Core.Path.{sym}
use borrow.Author.Tests.{eq-eqb, ne_eqb}
use Rattle.text.proofs.Wrote.{wrote_then, wrote-text}
use Rattle.trace.specs.Lines.{text}
use Rattle.trace.specs.Shown.{shown}
use Rattle.trace_text.proofs.put_shown.Goals as goal

pub returns-else-answer-eq0 : goal.returns-else-answer-eq0
unfolding shown text
returns-else-answer-eq0 c = wrote-text c.put_answered.ensures (rw (ne_eqb _ 0 c.if-answer-eq0.false) (sym (append-nil _)))

pub returns-then-answer-eq0 : goal.returns-then-answer-eq0
unfolding shown text
returns-then-answer-eq0 c = wrote-text (wrote_then c.put_answered.ensures c.put_came.ensures) (rw (eq-eqb _ 0 c.if-answer-eq0.true))
