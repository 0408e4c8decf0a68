-- `trace_text::lines::put_verdict` meets its contract.
use Rattle.text.proofs.Wrote.{wrote_then, wrote-text}
use borrow.Author.Tests.{eq-eqb, ne_eqb}
use Rattle.trace.specs.Lines.{verdict}
use Rattle.trace_text.proofs.lines.put_verdict.Goals as goal

pub returns-then-answer-eq0 : goal.returns-then-answer-eq0
unfolding verdict
returns-then-answer-eq0 c = wrote-text c.bytes.ensures (rw (eq-eqb _ 0 c.if-answer-eq0.true))

pub returns : goal.returns
unfolding verdict
returns c =
    wrote-text (wrote_then c.bytes-2.ensures c.put_question.ensures) (rw (ne_eqb _ 0 c.if-answer-eq0.false))
