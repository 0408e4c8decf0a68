-- `trace_text::changes::same_row` meets its contract.
use borrow.Author.Tests.{eq-eqb, ne_eqb}
use Rattle.trace.specs.Shown.{same_row}
use Rattle.trace_text.proofs.changes.same_row.Goals as goal

pub returns-then-r-s : goal.returns-then-r-s
unfolding same_row
returns-then-r-s c = simp (ne_eqb _ _ c.if-r-s.true)

pub returns-then-from : goal.returns-then-from
unfolding same_row
returns-then-from c = simp (eq-eqb _ _ c.if-r-s.false, ← c.from.ensures, ← c.from-2.ensures, ne_eqb _ _ c.if-from.true)

pub returns : goal.returns
unfolding same_row
returns c = simp (eq-eqb _ _ c.if-r-s.false, ← c.from.ensures, ← c.from-2.ensures, eq-eqb _ _ c.if-from.false)
