-- `trace_text::changes::put_rows` meets its contract.
use native.Mathlib.Numerals.{add-one}
use native.Mathlib.Omega.{arith}
use Rattle.std.proofs.Common.{rules}
use Rattle.text.proofs.Wrote.{wrote-text}
use Rattle.trace_text.proofs.Told.{wrote_no-lines, wrote-more, wrote_all}
use Rattle.ground.specs.Lists.{nth}
use Rattle.trace.specs.Shown.{changed_rows}
use Rattle.trace_text.proofs.changes.put_rows.Invariants.{row_lines}
use Rattle.trace_text.proofs.changes.put_rows.Goals as goal

pub loop-i-init : goal.loop-i-init
loop-i-init c = wrote_no-lines _ _ (search rules) (search rules)

pub loop-i-preserved : goal.loop-i-preserved
unfolding nth
loop-i-preserved c =
    let l = c.loop-i in
    let a = c.args in
    wrote-more l.i (row_lines a.old_n a.old a.new) l.invariant (wrote-text c.put_row.ensures (rw (add-one, c.row_at-is.ensures, c.row_at-was.ensures)))

pub returns : goal.returns
unfolding changed_rows
returns c = wrote_all _ (omega arith) c.loop-i.invariant
