-- `trace_text::changes::put_row` meets its contract.
use Rattle.text.proofs.Wrote.{wrote-text}
use mathlib.Core.Path.{sym, ◌∙◌}
use Rattle.trace.specs.LineLaws.{row_same, row_other, row_first}
use Rattle.trace_text.proofs.changes.put_row.Goals as goal

pub returns-then-same_row : goal.returns-then-same_row
returns-then-same_row c = wrote-text c.bytes.ensures (row_same _ _ _ _ c.if-k-n.true (sym c.same_row.ensures ∙ c.if-same_row.true))

pub returns-then-k-n : goal.returns-then-k-n
returns-then-k-n c = wrote-text c.put_controller.ensures (row_other _ _ _ _ c.if-k-n.true (sym c.same_row.ensures ∙ c.if-same_row.false))

pub returns : goal.returns
returns c = wrote-text c.put_controller-2.ensures (row_first _ _ _ _ c.if-k-n.false)
